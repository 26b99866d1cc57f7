use Rattle.egt_sweep.proofs.ranks.plies.Goals as goal

pub returns : goal.returns
returns c = record {
  more_mated = c.more_plies.ensures.mated;
  more_mates = c.more_plies.ensures.mates;
  mated_or = c.halves_meet.ensures.mated;
  mates_or = c.halves_meet.ensures.mates;
  mates_once = c.halves_meet.ensures.mates_once;
  won_or_lost = c.one_value.ensures.won_or_lost;
  least_win = c.least_plies.ensures.win;
  least_loss = c.least_plies.ensures.loss;
  one = c.one_value.ensures.one;
  losing_in_time = c.zeroes_in_time.ensures.losing;
  winning_in_time = c.zeroes_in_time.ensures.winning;
  images = c.all_images_are_alike.ensures.values;
}
