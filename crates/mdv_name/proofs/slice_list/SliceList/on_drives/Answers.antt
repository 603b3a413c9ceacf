use Rattle.std.proofs.Common.{◌≡◌, ap, sym, ◌∙◌, subst, take, List, Some, rules}
use Rattle.std.proofs.lemmas.Option.{slice_get-get_or}
use Rattle.mdv_name.specs.declared.slice_lines.SliceLine.{SliceLine}
use Rattle.mdv_name.specs.SliceIndex.{HasSlice, is_among, slices_on}
use Rattle.mdv_name.proofs.SliceIndexes.{fresh_at}
use Rattle.mdv_name.proofs.slice_list.SliceList.on_drives.Goals as goal

pub push-requires-clause-fresh : goal.push-requires-clause-fresh
push-requires-clause-fresh c =
    let line = c.index-then-is_among.result.now in
    let here = slice_get-get_or c.self.inside.lines.items c.loop-place.place line (search rules) ∙ ap (λ (l : SliceLine). Some l) (sym c.index-then-is_among.ensures) in
    let found : c.loop-place.found ≡ slices_on c.args.drives.now (take c.loop-place.place c.self.inside.lines.items)
    = c.loop-place.invariant ∙ ap (λ (l : List SliceLine). slices_on c.args.drives.now (take c.loop-place.place l)) (sym c.self.view_is) in
    λ at has. fresh_at c.self.inside.places c.self.inside.lines.items (λ l. is_among c.args.drives.now l.at.drive) c.loop-place.place line c.self.invariant here at (subst (λ (l : List SliceLine). HasSlice l line.name at) found has)
