use Rattle.std.proofs.Common.{◌∙◌, Some, None, refl, sym, ap, subst, true, false, arith}
use Rattle.mdv_shelf.specs.Tale.{last}
use Rattle.mdv_survey.specs.Below.{IsPlaced}
use Rattle.mdv_survey.specs.Replica.{at_of, other_of}
use Rattle.mdv_survey.specs.Others.{headed_flags}
use Rattle.mdv_survey.specs.Slice.{ListsNext, Visits}
use Rattle.mdv_survey.specs.declared.replica.Finds.{Finds}
use Rattle.mdv_survey.specs.declared.body.ReadFault.{ReadFault}
use Rattle.mdv_survey.specs.declared.body.ReadFault.TheVariants.{Memory}
use Rattle.mdv_survey.proofs.Counting.{err_is}
use Rattle.mdv_survey.proofs.Seating.{first_fits, placed_of}
use Rattle.mdv_survey.proofs.Places.{calm_here, cause_here, fit_here, slots_here, unfit_here}
use Rattle.mdv_survey.proofs.Told.{added_is}
use Rattle.mdv_survey.proofs.Visiting.{lists_added, lists_other, lists_skip, visits_added, visits_not, visits_other}
use Rattle.mdv_survey.proofs.slice.visit.Goals as goal

pub at-at-requires-clause-start : goal.at-at-requires-clause-start
at-at-requires-clause-start g c =
    let start = c.requires.seated.formed.of_place.start in
    let fits = c.requires.seated.formed.of_master.start in
    omega (arith, start, fits)

pub at-at-requires-clause-first : goal.at-at-requires-clause-first
at-at-requires-clause-first g c = first_fits (g.S.Shelf.sizes c.args.shelf.now) c.args.site.now c.requires.on_shelf c.args.replica c.requires.seated

pub slots_at-requires-clause-placed : goal.slots_at-requires-clause-placed
slots_at-requires-clause-placed g c = subst (IsPlaced (g.S.Shelf.sizes c.args.shelf.now)) (sym c.at-at.ensures) (placed_of (g.S.Shelf.sizes c.args.shelf.now) c.args.site.now c.requires.on_shelf c.args.replica c.requires.seated)

-- its slots couldn't be read
pub returns-in_err-slots-clause-answer : goal.returns-in_err-slots-clause-answer
returns-in_err-slots-clause-answer g c =
    rw (err_is c.from_residual.result c.in_err-slots.field-0.0 c.from_residual.ensures.1)
    (record {
      read = record {
        calm = tt;
        cause = cause_here c.at-at.result (at_of c.args.replica) c.at-at.ensures g.S.Shelf c.args.shelf.now c.slots_at.new.shelf c.in_err-slots.field-0.0 c.in_err-slots.ensures.answer.read.cause;
      };
      lists = lists_skip c.args.site.now c.args.replica c.args.finds.now;
      err = refl;
    })

-- there is no memory for its place, whose slots don't both fit
pub returns-in_err-add_other-clause-answer : goal.returns-in_err-add_other-clause-answer
returns-in_err-add_other-clause-answer g c =
    rw (err_is c.from_residual-in_err-add_other.result Memory c.from_residual-in_err-add_other.ensures.1)
    (record {
      read = record { calm = tt; cause = calm_here c.at-at.result (at_of c.args.replica) c.at-at.ensures g.S.Shelf c.args.shelf.now c.slots_at.new.shelf c.in_ok-slots.ensures.answer.read.calm };
      lists = subst (ListsNext c.args.site.now c.args.replica.line c.args.replica.number c.args.finds.now) (sym c.in_err-add_other.ensures.err) (lists_skip c.args.site.now c.args.replica c.args.finds.now);
      err = c.in_err-add_other.ensures.err;
    })

-- they don't both fit
pub returns-in_default-clause-answer : goal.returns-in_default-clause-answer
returns-in_default-clause-answer g c = record {
  read = record {
    calm = calm_here c.at-at.result (at_of c.args.replica) c.at-at.ensures g.S.Shelf c.args.shelf.now c.slots_at.new.shelf c.in_ok-slots.ensures.answer.read.calm;
    cause = tt;
  };
  lists = subst (ListsNext c.args.site.now c.args.replica.line c.args.replica.number c.args.finds.now)
      (sym (added_is c.args.finds.now c.add_other.new.self c.as_other.result (other_of c.args.replica (headed_flags true)) c.in_ok-add_other.ensures.ok (c.as_other.ensures ∙ ap (other_of c.args.replica) c.headed.ensures)))
      (lists_other c.args.site.now c.args.replica c.args.finds.now (headed_flags true));
  err = tt;
}

pub returns-in_default-clause-reads : goal.returns-in_default-clause-reads
returns-in_default-clause-reads g c = record {
  same = c.in_ok-slots.ensures.reads.same;
  gave = λ t is. subst (λ (new : Finds). Visits c.args.geometry.now c.args.site.now c.args.replica (last t) c.args.finds.now new false)
      (sym (added_is c.args.finds.now c.add_other.new.self c.as_other.result (other_of c.args.replica (headed_flags true)) c.in_ok-add_other.ensures.ok (c.as_other.ensures ∙ ap (other_of c.args.replica) c.headed.ensures)))
      (visits_not c.args.geometry.now c.args.site.now c.args.replica c.requires.seated (last t) c.args.finds.now
      (slots_here c.at-at.result (at_of c.args.replica) c.at-at.ensures c.args.geometry.now c.args.replica.head t c.in_ok-slots.field-0 None c.in_default.is (c.in_ok-slots.ensures.reads.gave t is)));
}

pub returns-in_default-clause-counted : goal.returns-in_default-clause-counted
returns-in_default-clause-counted g c =
    unfit_here c.at-at.result (at_of c.args.replica) c.at-at.ensures ReadFault g.S.Shelf c.args.shelf.now c.slots_at.new.shelf c.args.geometry.now c.args.replica.head c.in_ok-slots.field-0 c.in_default.is c.in_ok-slots.ensures.counted

-- there is no memory for its place, since it is of another key
pub returns-in_err-add_other-2-clause-answer : goal.returns-in_err-add_other-2-clause-answer
returns-in_err-add_other-2-clause-answer g c =
    rw (err_is c.from_residual-in_err-add_other-2.result Memory c.from_residual-in_err-add_other-2.ensures.1)
    (record {
      read = record { calm = tt; cause = calm_here c.at-at.result (at_of c.args.replica) c.at-at.ensures g.S.Shelf c.args.shelf.now c.slots_at.new.shelf c.in_ok-slots.ensures.answer.read.calm };
      lists = subst (ListsNext c.args.site.now c.args.replica.line c.args.replica.number c.args.finds.now) (sym c.in_err-add_other-2.ensures.err) (lists_skip c.args.site.now c.args.replica c.args.finds.now);
      err = c.in_err-add_other-2.ensures.err;
    })

pub returns-in_err-add_other-2-clause-counted : goal.returns-in_err-add_other-2-clause-counted
returns-in_err-add_other-2-clause-counted g c =
    let fit = fit_here c.at-at.result (at_of c.args.replica) c.at-at.ensures ReadFault g.S.Shelf c.args.shelf.now c.slots_at.new.shelf c.args.geometry.now c.args.replica.head c.in_ok-slots.field-0 c.in-Some.slots c.in-Some.is c.in_ok-slots.ensures.counted in
    rw (err_is c.from_residual-in_err-add_other-2.result Memory c.from_residual-in_err-add_other-2.ensures.1)
    (record { calls = fit.calls; few = fit.few; made = fit.made; by = λ t is. tt })

-- it is of another key
pub returns-then-not-is_same-clause-answer : goal.returns-then-not-is_same-clause-answer
returns-then-not-is_same-clause-answer g c = record {
  read = record {
    calm = calm_here c.at-at.result (at_of c.args.replica) c.at-at.ensures g.S.Shelf c.args.shelf.now c.slots_at.new.shelf c.in_ok-slots.ensures.answer.read.calm;
    cause = tt;
  };
  lists = subst (ListsNext c.args.site.now c.args.replica.line c.args.replica.number c.args.finds.now)
      (sym (added_is c.args.finds.now c.add_other-then-not-is_same.new.self c.as_other-then-not-is_same.result (other_of c.args.replica (headed_flags false)) c.in_ok-add_other-2.ensures.ok
      (c.as_other-then-not-is_same.ensures ∙ ap (other_of c.args.replica) c.headed-then-not-is_same.ensures)))
      (lists_other c.args.site.now c.args.replica c.args.finds.now (headed_flags false));
  err = tt;
}

pub returns-then-not-is_same-clause-reads : goal.returns-then-not-is_same-clause-reads
returns-then-not-is_same-clause-reads g c = record {
  same = c.in_ok-slots.ensures.reads.same;
  gave = λ t is. (
      let slots = slots_here c.at-at.result (at_of c.args.replica) c.at-at.ensures c.args.geometry.now c.args.replica.head t c.in_ok-slots.field-0 (Some c.in-Some.slots) c.in-Some.is (c.in_ok-slots.ensures.reads.gave t is) in
      subst (λ (new : Finds). Visits c.args.geometry.now c.args.site.now c.args.replica (last t) c.args.finds.now new true)
      (sym (added_is c.args.finds.now c.add_other-then-not-is_same.new.self c.as_other-then-not-is_same.result (other_of c.args.replica (headed_flags false)) c.in_ok-add_other-2.ensures.ok
      (c.as_other-then-not-is_same.ensures ∙ ap (other_of c.args.replica) c.headed-then-not-is_same.ensures)))
      (visits_other c.args.geometry.now c.args.site.now c.args.replica c.requires.seated (last t) c.args.finds.now slots.0 (λ same. absurd (cc (c.is_same.ensures.1 same, c.if-not-is_same.true)))));
}

pub returns-then-not-is_same-clause-counted : goal.returns-then-not-is_same-clause-counted
returns-then-not-is_same-clause-counted g c =
    fit_here c.at-at.result (at_of c.args.replica) c.at-at.ensures ReadFault g.S.Shelf c.args.shelf.now c.slots_at.new.shelf c.args.geometry.now c.args.replica.head c.in_ok-slots.field-0 c.in-Some.slots c.in-Some.is c.in_ok-slots.ensures.counted

-- there is no memory for it
pub returns-in_err-add-clause-answer : goal.returns-in_err-add-clause-answer
returns-in_err-add-clause-answer g c =
    rw (err_is c.from_residual-in_err-add.result Memory c.from_residual-in_err-add.ensures.1)
    (record {
      read = record { calm = tt; cause = calm_here c.at-at.result (at_of c.args.replica) c.at-at.ensures g.S.Shelf c.args.shelf.now c.slots_at.new.shelf c.in_ok-slots.ensures.answer.read.calm };
      lists = subst (ListsNext c.args.site.now c.args.replica.line c.args.replica.number c.args.finds.now) (sym c.in_err-add.ensures.err) (lists_skip c.args.site.now c.args.replica c.args.finds.now);
      err = c.in_err-add.ensures.err;
    })

-- it was added
pub returns-clause-answer : goal.returns-clause-answer
returns-clause-answer g c = record {
  read = record {
    calm = calm_here c.at-at.result (at_of c.args.replica) c.at-at.ensures g.S.Shelf c.args.shelf.now c.slots_at.new.shelf c.in_ok-slots.ensures.answer.read.calm;
    cause = tt;
  };
  lists = lists_added c.args.site.now c.args.replica c.args.finds.now c.add.new.self c.requires.seated (c.is_same.ensures.0 c.if-not-is_same.false) c.in_ok-add.ensures.replicas c.add.ensures.others c.in_ok-add.ensures.marked;
  err = tt;
}

pub returns-clause-reads : goal.returns-clause-reads
returns-clause-reads g c = record {
  same = c.in_ok-slots.ensures.reads.same;
  gave = λ t is. (
      let slots = slots_here c.at-at.result (at_of c.args.replica) c.at-at.ensures c.args.geometry.now c.args.replica.head t c.in_ok-slots.field-0 (Some c.in-Some.slots) c.in-Some.is (c.in_ok-slots.ensures.reads.gave t is) in
      visits_added c.args.geometry.now c.args.site.now c.args.replica c.requires.seated (last t) c.args.finds.now c.add.new.self slots.0 (c.is_same.ensures.0 c.if-not-is_same.false) c.in_ok-add.ensures.replicas c.add.ensures.others
      (λ has. c.in_ok-add.ensures.table c.args.geometry.now (last t) has slots.1));
}
