use Rattle.std.proofs.Common.{◌≡◌, ◌++◌, List, ℕ, ◌<◌, suc, take, drop, length, get_or, refl, sym, ap, ◌∙◌}
use Rattle.std.proofs.Common.{append_assoc, arith}
use Rattle.egt_table.specs.Prelude.{flat_map, err_from_is_err_and, header_of, column_bytes, entries_bytes, version_of}
use Rattle.egt_table.specs.Prelude.{columns_of, Column, Mate}
use Rattle.egt_table.proofs.Columns.{pieces_split}
use Rattle.egt_table.proofs.Known.{appends_more, front_longer, front_more}
use Rattle.egt_table.proofs.table.Table.write.Goals as goal

-- the header that was pushed is that of the table's file
its_header : (header : List ℕ) (version told class number : ℕ) → header ≡ header_of told number → told ≡ version → number ≡ class → header ≡ header_of version class
its_header header version told class number h v e = h ∙ ap (λ (n : ℕ). header_of n number) v ∙ ap (λ (n : ℕ). header_of version n) e

pub returns-in_err-push_all-clause-front : goal.returns-in_err-push_all-clause-front
returns-in_err-push_all-clause-front g c =
    let body = flat_map (column_bytes c.args.self.now) (columns_of c.args.self.now) in
    let header = its_header c.header.result (version_of c.args.self.now.reach) _ c.args.self.now.class _ c.header.ensures c.version.ensures c.class.ensures.class in
    let p = err_from_is_err_and c.from_residual.result c.from_residual.ensures.1 in
    rw p.1 (front_longer _ _ c.header.result body _ c.in_err-push_all.ensures.front (ap (λ (w : List ℕ). w ++ body) (sym header)))

pub returns-in_err-push_entries-clause-front : goal.returns-in_err-push_entries-clause-front
returns-in_err-push_entries-clause-front g c =
    let i = c.loop-column.column-index in
    let bytes = column_bytes c.args.self.now in
    let columns = columns_of c.args.self.now in
    let header = its_header c.header.result (version_of c.args.self.now.reach) _ c.args.self.now.class _ c.header.ensures c.version.ensures c.class.ensures.class in
    let before = flat_map bytes (take i columns) in
    let behind = flat_map bytes (drop (suc i) columns) in
    let inside : i < length columns = omega (arith, ap length c.columns-column-items.ensures) in
    let here : entries_bytes c.entries.result.now ≡ bytes (get_or columns i Mate) =
    ap (λ (w : List ℕ). entries_bytes w) c.entries.ensures.entries ∙ ap (λ (w : List Column). bytes (get_or w i Mate)) c.columns-column-items.ensures in
    let split = pieces_split bytes columns i Mate inside in
    let p = err_from_is_err_and c.from_residual-in_err-push_entries.result c.from_residual-in_err-push_entries.ensures.1 in
    rw p.1
    (front_more _ _ _ (c.header.result ++ before) (entries_bytes c.entries.result.now) behind _
    (appends_more _ _ _ _ _ _ c.in_ok-push_all.ensures.bytes c.loop-column.invariant.bytes refl) c.in_err-push_entries.ensures.front
    (ap (λ (w : List ℕ). header_of (version_of c.args.self.now.reach) c.args.self.now.class ++ w) (split ∙ ap (λ (w : List ℕ). before ++ (w ++ behind)) (sym here))
    ∙ ap (λ (w : List ℕ). w ++ (before ++ (entries_bytes c.entries.result.now ++ behind))) (sym header)
    ∙ sym (append_assoc c.header.result before (entries_bytes c.entries.result.now ++ behind))))
