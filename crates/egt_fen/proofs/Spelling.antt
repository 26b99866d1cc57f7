-- A text spells what its parts say.
use Rattle.std.proofs.Common.{◌≡◌, ℕ, List, Option, Some, None, Result, Ok, Err, refl, sym, ap, ◌∙◌, subst, arith}
use Rattle.egt_fen.specs.Prelude.{IsOk, IsErr, Side, Man, setup_of, FitsBoard, Setup, IsAdmissible, FenFault, Fen}
use Rattle.egt_fen.specs.Prelude.{Fields, fields_of, placement_of, side_of, castling_of, target_of, clocks_of, Parts}
use Rattle.egt_fen.specs.Prelude.{◌>>=◌, expect, parts_of, Spells}
use Rattle.egt_fen.specs.declared.fault.FenFault.TheVariants.{FieldCount, Placement, Colour, Castling, EpField, Counter}

pub not_both : {T E : Type 0} (r : Result T E) → IsErr r → IsOk r → ⊥
not_both r err ok = grind arith

abbrev pub Read : Type 0
Read = Result Parts FenFault

-- the reading of each part after those before it
abbrev clocks_then : List (Man × ℕ) → Side → Option ℕ → Option (ℕ × ℕ) → Read
clocks_then men side target o = expect Counter o >>= λ clocks. Ok (record { men = men; side = side; target = target; halfmove = clocks.0; fullmove = clocks.1 })

abbrev target_then : Fields → List (Man × ℕ) → Side → Option (Option ℕ) → Read
target_then f men side o = expect EpField o >>= λ target. clocks_then men side target (clocks_of f.clocks)

abbrev castling_then : Fields → List (Man × ℕ) → Side → Option (Unit {0}) → Read
castling_then f men side o = expect Castling o >>= λ none. target_then f men side (target_of f.target)

abbrev side_then : Fields → List (Man × ℕ) → Option Side → Read
side_then f men o = expect Colour o >>= λ side. castling_then f men side (castling_of f.castling)

abbrev placement_then : Fields → Option (List (Man × ℕ)) → Read
placement_then f o = expect Placement o >>= λ men. side_then f men (side_of f.side)

abbrev fields_then : Option Fields → Read
fields_then o = expect FieldCount o >>= λ f. placement_then f (placement_of f.placement)

-- the text says these parts, field by field
pub record Says (text : List ℕ) (p : Parts) : Type 0 where
  pub fields : Fields
  pub split : fields_of text ≡ Some fields
  pub placement : placement_of fields.placement ≡ Some p.men
  pub side : side_of fields.side ≡ Some p.side
  pub castling : castling_of fields.castling ≡ Some tt
  pub target : target_of fields.target ≡ Some p.target
  pub clocks : clocks_of fields.clocks ≡ Some (p.halfmove, p.fullmove)

pub says_read : (text : List ℕ) (p : Parts) → Says text p → parts_of text ≡ Ok p
unfolding parts_of
says_read text p s =
    ap fields_then s.split
    ∙ ap (placement_then s.fields) s.placement
    ∙ ap (side_then s.fields p.men) s.side
    ∙ ap (castling_then s.fields p.men p.side) s.castling
    ∙ ap (target_then s.fields p.men p.side) s.target
    ∙ ap (clocks_then p.men p.side p.target) s.clocks

abbrev pub done : Parts → Read
done x = Ok x

pub ok_is : (x y : Parts) → done x ≡ done y → x ≡ y
ok_is x y h = cc

-- a value that was read
read_ok : {A B : Type 0} (fault : FenFault) (o : Option A) (f : A → Result B FenFault) (y : B) → (expect fault o >>= f) ≡ Ok y → (x : A) × (o ≡ Some x) × (f x ≡ Ok y)
read_ok fault None f y e = absurd (cc)
read_ok fault (Some x) f y e = (x, refl, e)

pub read_says : (text : List ℕ) (p : Parts) → parts_of text ≡ Ok p → Says text p
unfolding parts_of
read_says text p e =
    let a = read_ok FieldCount (fields_of text) (λ f. placement_then f (placement_of f.placement)) p e in
    let f = a.0 in
    let b = read_ok Placement (placement_of f.placement) (λ men. side_then f men (side_of f.side)) p a.2 in
    let c = read_ok Colour (side_of f.side) (λ side. castling_then f b.0 side (castling_of f.castling)) p b.2 in
    let d = read_ok Castling (castling_of f.castling) (λ none. target_then f b.0 c.0 (target_of f.target)) p c.2 in
    let t = read_ok EpField (target_of f.target) (λ target. clocks_then b.0 c.0 target (clocks_of f.clocks)) p d.2 in
    let k = read_ok Counter (clocks_of f.clocks) (λ clocks. Ok (record { men = b.0; side = c.0; target = t.0; halfmove = clocks.0; fullmove = clocks.1 })) p t.2 in
    subst (Says text) (ok_is (record { men = b.0; side = c.0; target = t.0; halfmove = k.0.0; fullmove = k.0.1 }) p k.2)
    (record { fields = f; split = a.1; placement = b.1; side = c.1; castling = d.1; target = t.1; clocks = k.1 })

abbrev pub parts_with : List (Man × ℕ) → Fen → Parts
parts_with men fen = record { men = men; side = fen.position.side; target = fen.position.target; halfmove = fen.halfmove; fullmove = fen.fullmove }

-- a text that spells a position is read
pub spelled_read : (text : List ℕ) (fen : Fen) (s : Spells text fen) → parts_of text ≡ Ok (parts_with s.men fen)
spelled_read text fen s =
    says_read text (parts_with s.men fen)
    (record { fields = s.fields; split = s.split; placement = s.placement; side = s.side; castling = s.castling; target = s.target; clocks = s.clocks })

-- the men of a text that spells a position fit the board, and its setup is admissible
pub record Admits (p : Parts) : Type 0 where
  pub fits : FitsBoard p.men
  pub admissible : IsAdmissible (setup_of p.men p.side p.target)

pub spelled_admits : (text : List ℕ) (fen : Fen) (p : Parts) → Spells text fen → parts_of text ≡ Ok p → Admits p
spelled_admits text fen p s e =
    subst Admits (ok_is (parts_with s.men fen) p (sym (spelled_read text fen s) ∙ e))
    (record { fits = s.fits; admissible = subst (λ m. IsAdmissible (record { men = m; side = fen.position.side; target = fen.position.target })) s.board s.admissible })

-- a text that says the parts of an admissible setup spells it
pub says_spells : (text : List ℕ) (fen : Fen) (p : Parts) → parts_of text ≡ Ok p → fen.position ≡ setup_of p.men p.side p.target → fen.halfmove ≡ p.halfmove → fen.fullmove ≡ p.fullmove → Admits p → Spells text fen
says_spells text fen p e there half full admits =
    let s = read_says text p e in
    record {
      fields = s.fields;
      men = p.men;
      split = s.split;
      placement = s.placement;
      side = s.side ∙ ap (λ (x : Setup). Some x.side) (sym there);
      castling = s.castling;
      target = s.target ∙ ap (λ (x : Setup). Some x.target) (sym there);
      clocks = s.clocks ∙ ap (λ (n : ℕ). Some (n, p.fullmove)) (sym half) ∙ ap (λ (n : ℕ). Some (fen.halfmove, n)) (sym full);
      board = ap (λ (x : Setup). x.men) there;
      fits = admits.fits;
      admissible = subst IsAdmissible (sym there) admits.admissible;
    }

-- a text is not both read and refused
pub not_refused : (text : List ℕ) (fen : Fen) (fault : FenFault) → Spells text fen → parts_of text ≡ Err fault → ⊥
not_refused text fen fault s e = let read = spelled_read text fen s in cc

-- the same of a list that is the men of the parts
abbrev IsAdmitted : List (Man × ℕ) → Parts → Type 0
IsAdmitted men p = FitsBoard men × IsAdmissible (setup_of men p.side p.target)

pub admits_from : (men : List (Man × ℕ)) (p : Parts) → men ≡ p.men → IsAdmitted men p → Admits p
admits_from men p e h = let kept = subst (λ m. IsAdmitted m p) e h in record { fits = kept.0; admissible = kept.1 }

pub admits_to : (men : List (Man × ℕ)) (p : Parts) → men ≡ p.men → Admits p → IsAdmitted men p
admits_to men p e h = subst (λ m. IsAdmitted m p) (sym e) (h.fits, h.admissible)
