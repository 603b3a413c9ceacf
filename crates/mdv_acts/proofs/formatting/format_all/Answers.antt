use Rattle.std.proofs.Common.{◌+◌, ℕ, List, [], ◌∷◌, ◌++◌, take, drop, slice_index_or, sym, subst}
use Rattle.std.specs.Prelude.{flat_map}
use Rattle.std.proofs.lemmas.List.Elements.{Contains-get_or}
use Rattle.mdv_acts.specs.Acts.{Act, ArePlaced, HaveGone, HaveStopped, forms_on}
use Rattle.mdv_acts.specs.Asked.{drives_asked}
use Rattle.mdv_acts.proofs.Acting.{flat_at, flat_more, gone_then, gone_wider, no_line, on_err, stopped_front, stopped_then, stopped_wider}
use Rattle.mdv_acts.proofs.Asked.{one_asked, placed_asked}
use Rattle.mdv_acts.proofs.formatting.format_all.Goals as goal

pub format_slice-requires : goal.format_slice-requires
format_slice-requires g c = record {
  number = c.requires.number;
  placed = subst (λ (sizes : List ℕ). ArePlaced sizes (slice_index_or c.args.lines.now c.loop-line.line-index no_line) c.args.count c.args.blocks) (sym c.loop-line.invariant.kept.keeps.same_sizes)
      (placed_asked (g.S.Shelf.sizes c.args.shelf.now) c.args.lines.now c.args.count c.args.blocks (slice_index_or c.args.lines.now c.loop-line.line-index no_line) c.requires.asked (Contains-get_or c.args.lines.now c.loop-line.line-index no_line c.loop-line-test.true));
}

pub returns-in_err-format_slice-clause-stopped : goal.returns-in_err-format_slice-clause-stopped
returns-in_err-format_slice-clause-stopped g c =
    let lines = c.args.lines.now in
    let i = c.loop-line.line-index in
    let line = slice_index_or lines i no_line in
    let acts = forms_on c.args.owner.now.key c.args.owner.now.identity c.args.owner.now.claim c.args.count c.args.blocks in
    on_err c.from_residual.result _
    (subst (λ (l : List Act). HaveStopped g.S.Shelf c.args.shelf.now c.format_slice.new.shelf (drives_asked lines) l) (sym (flat_at acts lines i no_line c.loop-line-test.true))
    (stopped_front g.S.Shelf (drives_asked lines) (flat_map acts (take i lines) ++ acts line) (flat_map acts (drop (i + 1) lines)) c.args.shelf.now c.format_slice.new.shelf
    (stopped_then g.S.Shelf (drives_asked lines) (flat_map acts (take i lines)) (acts line) c.args.shelf.now c.loop-line.shelf c.format_slice.new.shelf c.loop-line.invariant
    (stopped_wider g.S.Shelf c.loop-line.shelf c.format_slice.new.shelf (acts line) (line.at.drive ∷ []) (drives_asked lines) (one_asked lines line (Contains-get_or lines i no_line c.loop-line-test.true)) c.in_err-format_slice.ensures.stopped))))

pub loop-line-preserved : goal.loop-line-preserved
loop-line-preserved g c =
    let lines = c.args.lines.now in
    let i = c.loop-line.line-index in
    let line = slice_index_or lines i no_line in
    let acts = forms_on c.args.owner.now.key c.args.owner.now.identity c.args.owner.now.claim c.args.count c.args.blocks in
    subst (λ (l : List Act). HaveGone g.S.Shelf c.args.shelf.now c.format_slice.new.shelf (drives_asked lines) l) (sym (flat_more acts lines i no_line c.loop-line-test.true))
    (gone_then g.S.Shelf (drives_asked lines) (flat_map acts (take i lines)) (acts line) c.args.shelf.now c.loop-line.shelf c.format_slice.new.shelf c.loop-line.invariant
    (gone_wider g.S.Shelf c.loop-line.shelf c.format_slice.new.shelf (acts line) (line.at.drive ∷ []) (drives_asked lines) (one_asked lines line (Contains-get_or lines i no_line c.loop-line-test.true)) c.in_ok-format_slice.ensures.gone))
