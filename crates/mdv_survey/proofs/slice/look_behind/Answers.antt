use Rattle.std.proofs.Common.{◌∙◌, sym, subst, arith, ℕ, Bool, List}
use Rattle.mdv_survey.specs.Below.{last}
use Rattle.mdv_survey.specs.Counts.{IsCounted, IsNumberBy}
use Rattle.mdv_survey.specs.Replica.{IsOnShelf}
use Rattle.mdv_survey.specs.Slice.{Looks}
use Rattle.mdv_survey.specs.Slots.{OnlyReads}
use Rattle.mdv_survey.proofs.Counting.{err_is}
use Rattle.mdv_survey.proofs.Walking.{counted_done, counted_ended, counted_failed, kept_then, listed_done, listed_then, rest_done, rest_ended, rest_failed, so_far_more, so_far_none}
use Rattle.mdv_survey.proofs.slice.look_behind.Goals as goal

pub loop-number-init : goal.loop-number-init
loop-number-init g c = record {
  few = omega arith;
  whole = c.requires.whole;
  so = so_far_none g.S.Shelf c.args.geometry.now c.args.site.now c.args.first.line c.args.first.first c.args.shelf.now c.args.finds.now;
}

pub look_at_number-requires-clause-on_shelf : goal.look_at_number-requires-clause-on_shelf
look_at_number-requires-clause-on_shelf g c = subst (λ (sizes : List ℕ). IsOnShelf sizes c.args.site.now) (sym c.loop-number.invariant.so.kept.kept.keeps.same_sizes) c.requires.on_shelf

pub loop-number-preserved : goal.loop-number-preserved
loop-number-preserved g c =
    let G = c.args.geometry.now in
    let inv = c.loop-number.invariant in
    let readable : Bool = c.in_ok-look_at_number.field-0 in
    record {
      few = omega arith;
      whole = c.look_at_number.ensures.whole ∙ inv.whole;
      so = so_far_more g.S.Shelf G c.args.site.now c.args.first.line c.args.first.first c.loop-number.number (omega arith) c.args.shelf.now c.loop-number.shelf c.args.finds.now c.loop-number.finds inv.so
          c.look_at_number.new.shelf c.look_at_number.new.finds c.look_at_number.ensures.kept c.look_at_number.ensures.answer.lists c.in_ok-look_at_number.ensures.answer.read.calm
          (subst (λ (b : Bool). OnlyReads g.S.Shelf (λ t. Looks G c.args.site.now c.args.first.line c.args.first.first c.loop-number.number (last t) b c.loop-number.finds c.look_at_number.new.finds) c.loop-number.shelf c.look_at_number.new.shelf) c.if-not-branch.false c.in_ok-look_at_number.ensures.reads)
          (subst (λ (b : Bool). IsCounted g.S.Shelf c.loop-number.shelf c.look_at_number.new.shelf 3 (λ t n. IsNumberBy G c.args.site.now c.args.first.line c.args.first.first (last t c.args.first.line.at.drive.0) c.loop-number.number b n)) c.if-not-branch.false c.in_ok-look_at_number.ensures.counted);
    }

-- it couldn't be read
pub returns-in_err-look_at_number-clause-listed : goal.returns-in_err-look_at_number-clause-listed
returns-in_err-look_at_number-clause-listed g c = listed_then g.S.Shelf c.args.geometry.now c.args.site.now c.args.first.line c.args.first.first c.loop-number.number (omega arith) c.args.shelf.now c.loop-number.shelf c.args.finds.now c.loop-number.finds c.loop-number.invariant.so c.look_at_number.new.shelf c.look_at_number.new.finds c.look_at_number.ensures.kept c.look_at_number.ensures.answer.lists

pub returns-in_err-look_at_number-clause-reads : goal.returns-in_err-look_at_number-clause-reads
returns-in_err-look_at_number-clause-reads g c =
    rw (err_is c.from_residual.result c.in_err-look_at_number.field-0.0 c.from_residual.ensures.1)
    (rest_failed g.S.Shelf c.args.geometry.now c.args.site.now c.args.first.line c.args.first.first c.loop-number.number (omega arith) c.args.shelf.now c.loop-number.shelf c.args.finds.now c.loop-number.finds c.loop-number.invariant.so c.look_at_number.new.shelf c.look_at_number.new.finds c.look_at_number.ensures.kept c.look_at_number.ensures.answer.lists c.in_err-look_at_number.field-0.0 c.in_err-look_at_number.ensures.reads.same c.in_err-look_at_number.ensures.answer.err)

pub returns-in_err-look_at_number-clause-counted : goal.returns-in_err-look_at_number-clause-counted
returns-in_err-look_at_number-clause-counted g c =
    rw (err_is c.from_residual.result c.in_err-look_at_number.field-0.0 c.from_residual.ensures.1)
    (counted_failed g.S.Shelf c.args.geometry.now c.args.site.now c.args.first.line c.args.first.first c.loop-number.number (omega arith) c.args.shelf.now c.loop-number.shelf c.args.finds.now c.loop-number.finds c.loop-number.invariant.so c.look_at_number.new.shelf c.look_at_number.new.finds c.look_at_number.ensures.kept c.look_at_number.ensures.answer.lists 762 (omega arith) (λ t n. Unit {0}) c.loop-number.invariant.so.reads.same c.in_err-look_at_number.ensures.counted)

pub returns-in_err-look_at_number-clause-kept : goal.returns-in_err-look_at_number-clause-kept
returns-in_err-look_at_number-clause-kept g c = kept_then g.S.Shelf c.args.geometry.now c.args.site.now c.args.first.line c.args.first.first c.loop-number.number (omega arith) c.args.shelf.now c.loop-number.shelf c.args.finds.now c.loop-number.finds c.loop-number.invariant.so c.look_at_number.new.shelf c.look_at_number.new.finds c.look_at_number.ensures.kept c.look_at_number.ensures.answer.lists

-- it isn't readable
pub returns-then-not-branch-clause-listed : goal.returns-then-not-branch-clause-listed
returns-then-not-branch-clause-listed g c = listed_then g.S.Shelf c.args.geometry.now c.args.site.now c.args.first.line c.args.first.first c.loop-number.number (omega arith) c.args.shelf.now c.loop-number.shelf c.args.finds.now c.loop-number.finds c.loop-number.invariant.so c.look_at_number.new.shelf c.look_at_number.new.finds c.look_at_number.ensures.kept c.look_at_number.ensures.answer.lists

pub returns-then-not-branch-clause-reads : goal.returns-then-not-branch-clause-reads
returns-then-not-branch-clause-reads g c =
    rest_ended g.S.Shelf c.args.geometry.now c.args.site.now c.args.first.line c.args.first.first c.loop-number.number (omega arith) c.args.shelf.now c.loop-number.shelf c.args.finds.now c.loop-number.finds c.loop-number.invariant.so c.look_at_number.new.shelf c.look_at_number.new.finds c.look_at_number.ensures.kept c.look_at_number.ensures.answer.lists
    (subst (λ (b : Bool). OnlyReads g.S.Shelf (λ t. Looks c.args.geometry.now c.args.site.now c.args.first.line c.args.first.first c.loop-number.number (last t) b c.loop-number.finds c.look_at_number.new.finds) c.loop-number.shelf c.look_at_number.new.shelf) c.if-not-branch.true c.in_ok-look_at_number.ensures.reads)

pub returns-then-not-branch-clause-counted : goal.returns-then-not-branch-clause-counted
returns-then-not-branch-clause-counted g c =
    counted_ended g.S.Shelf c.args.geometry.now c.args.site.now c.args.first.line c.args.first.first c.loop-number.number (omega arith) c.args.shelf.now c.loop-number.shelf c.args.finds.now c.loop-number.finds c.loop-number.invariant.so c.look_at_number.new.shelf c.look_at_number.new.finds c.look_at_number.ensures.kept c.look_at_number.ensures.answer.lists 762 (omega arith)
    (subst (λ (b : Bool). IsCounted g.S.Shelf c.loop-number.shelf c.look_at_number.new.shelf 3 (λ t n. IsNumberBy c.args.geometry.now c.args.site.now c.args.first.line c.args.first.first (last t c.args.first.line.at.drive.0) c.loop-number.number b n)) c.if-not-branch.true c.in_ok-look_at_number.ensures.counted)

pub returns-then-not-branch-clause-kept : goal.returns-then-not-branch-clause-kept
returns-then-not-branch-clause-kept g c = kept_then g.S.Shelf c.args.geometry.now c.args.site.now c.args.first.line c.args.first.first c.loop-number.number (omega arith) c.args.shelf.now c.loop-number.shelf c.args.finds.now c.loop-number.finds c.loop-number.invariant.so c.look_at_number.new.shelf c.look_at_number.new.finds c.look_at_number.ensures.kept c.look_at_number.ensures.answer.lists

-- all of them were looked at
pub returns-clause-listed : goal.returns-clause-listed
returns-clause-listed g c = listed_done g.S.Shelf c.args.geometry.now c.args.site.now c.args.first.line c.args.first.first c.loop-number.number (omega arith) c.args.shelf.now c.loop-number.shelf c.args.finds.now c.loop-number.finds c.loop-number.invariant.so

pub returns-clause-reads : goal.returns-clause-reads
returns-clause-reads g c = rest_done g.S.Shelf c.args.geometry.now c.args.site.now c.args.first.line c.args.first.first c.loop-number.number (omega arith) c.args.shelf.now c.loop-number.shelf c.args.finds.now c.loop-number.finds c.loop-number.invariant.so c.loop-number-test.false

pub returns-clause-counted : goal.returns-clause-counted
returns-clause-counted g c =
    let few = c.loop-number.invariant.few in
    counted_done g.S.Shelf c.args.geometry.now c.args.site.now c.args.first.line c.args.first.first c.loop-number.number (omega arith) c.args.shelf.now c.loop-number.shelf c.args.finds.now c.loop-number.finds c.loop-number.invariant.so c.loop-number-test.false 762 (omega (arith, few))
