use Rattle.std.proofs.Common.{sym, subst, List}
use Rattle.std.proofs.lemmas.List.Elements.{Contains-get_or}
use Rattle.std.specs.Prelude.{Contains, slice_index_or}
use Rattle.mdv_survey.specs.Below.{SliceLine}
use Rattle.mdv_survey.specs.Replica.{IsOnShelf}
use Rattle.mdv_survey.proofs.Counting.{err_is}
use Rattle.mdv_survey.proofs.Lines.{no_line, one_look, survey_of, surveyed_failed, surveyed_more, surveyed_none}
use Rattle.mdv_survey.proofs.surveying.survey.Goals as goal

pub loop-line-init : goal.loop-line-init
loop-line-init g c =
    surveyed_none g.S.Shelf c.args.geometry.now c.args.site.now c.args.up.now c.as_slice-line-items.result.now c.args.shelf.now c.new-failed.result c.new-finds.result c.new-failed.ensures.none c.new-finds.ensures.replicas c.new-finds.ensures.newest c.new-finds.ensures.others

pub look_where_up-requires-clause-on_shelf : goal.look_where_up-requires-clause-on_shelf
look_where_up-requires-clause-on_shelf g c = subst (λ (sizes : List _). IsOnShelf sizes c.args.site.now) (sym c.loop-line.invariant.kept.keeps.same_sizes) c.requires.on_shelf

pub look_where_up-requires-clause-one_of : goal.look_where_up-requires-clause-one_of
look_where_up-requires-clause-one_of g c =
    subst (λ (lines : List SliceLine). Contains lines (slice_index_or c.as_slice-line-items.result.now c.loop-line.line-index no_line)) c.as_slice-line-items.ensures (Contains-get_or c.as_slice-line-items.result.now c.loop-line.line-index no_line c.loop-line-test.true)

pub loop-line-preserved : goal.loop-line-preserved
loop-line-preserved g c =
    surveyed_more g.S.Shelf c.args.geometry.now c.args.site.now c.args.up.now c.as_slice-line-items.result.now c.loop-line.line-index c.loop-line-test.true (sym c.as_slice-line-items.ensures) c.args.shelf.now c.loop-line.shelf c.look_where_up.new.shelf
    c.loop-line.failed c.look_where_up.new.failed c.loop-line.finds c.look_where_up.new.finds c.loop-line.invariant c.look_where_up.ensures.listed c.in_ok-look_where_up.ensures.reads c.in_ok-look_where_up.ensures.looked c.look_where_up.ensures.kept

-- there was no memory for it
pub returns-in_err-look_where_up-clause-counted : goal.returns-in_err-look_where_up-clause-counted
returns-in_err-look_where_up-clause-counted g c =
    rw (err_is c.from_residual.result c.in_err-look_where_up.field-0.0 c.from_residual.ensures.1)
    (surveyed_failed g.S.Shelf c.args.geometry.now c.args.site.now c.args.up.now c.as_slice-line-items.result.now c.loop-line.line-index c.loop-line-test.true (sym c.as_slice-line-items.ensures) c.args.shelf.now c.loop-line.shelf c.look_where_up.new.shelf
    c.loop-line.failed c.loop-line.finds c.loop-line.invariant (λ t n. Unit {0}) c.in_err-look_where_up.ensures.counted)

-- all slices were looked at
pub returns-clause-reads : goal.returns-clause-reads
returns-clause-reads g c =
    survey_of g.S.Shelf c.args.geometry.now c.args.site.now c.args.up.now c.as_slice-line-items.result.now c.loop-line.line-index c.loop-line-test.false c.loop-line.auto.line-index-end (sym c.as_slice-line-items.ensures) c.args.shelf.now c.loop-line.shelf
    c.loop-line.failed c.loop-line.finds c.loop-line.invariant

pub returns-clause-failed : goal.returns-clause-failed
returns-clause-failed g c =
    one_look g.S.Shelf c.args.geometry.now c.args.site.now c.args.up.now c.as_slice-line-items.result.now c.loop-line.line-index c.loop-line-test.false c.loop-line.auto.line-index-end (sym c.as_slice-line-items.ensures) c.args.shelf.now c.loop-line.shelf
    c.loop-line.failed c.loop-line.finds c.loop-line.invariant
