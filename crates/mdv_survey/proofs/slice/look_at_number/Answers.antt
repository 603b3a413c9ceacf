use Rattle.std.proofs.Common.{◌∙◌, inr, refl, sym, ap, subst, false, arith}
use Rattle.mdv_survey.specs.Below.{last, size_on}
use Rattle.mdv_survey.specs.Replica.{at_of, other_of}
use Rattle.mdv_survey.specs.Others.{unread_flags}
use Rattle.mdv_survey.specs.Slice.{ListsNext, Looks}
use Rattle.mdv_survey.specs.declared.body.ReadFault.TheVariants.{Failed, Memory}
use Rattle.mdv_survey.specs.declared.replica.Finds.{Finds}
use Rattle.mdv_survey.specs.declared.replica.Replica.{Replica}
use Rattle.mdv_survey.proofs.Counting.{err_is}
use Rattle.mdv_survey.proofs.Ending.{read_on_more}
use Rattle.mdv_survey.proofs.Efforts.{counted_one, unreadable_unread}
use Rattle.mdv_survey.proofs.Places.{calm_here, cause_here, kept_here}
use Rattle.mdv_survey.proofs.Slicing.{head_of}
use Rattle.mdv_survey.proofs.Told.{added_is}
use Rattle.mdv_survey.proofs.Visiting.{beyond_of, chained_of, lists_other, lists_skip, looks_beyond, looks_unread, number_counted, numbered, placed_of, there_of}
use Rattle.mdv_survey.proofs.slice.look_at_number.Goals as goal

-- its head couldn't be read
pub returns-in_err-seen-clause-answer : goal.returns-in_err-seen-clause-answer
returns-in_err-seen-clause-answer g c =
    rw (err_is c.from_residual-in_err-seen.result Failed c.from_residual-in_err-seen.ensures.1)
    (record {
      read = record { calm = tt; cause = cause_here c.at.result (at_of (numbered c.args.first c.args.number)) c.at.ensures g.S.Shelf c.args.shelf.now c.look_at.new.shelf Failed c.in_err-seen.ensures.cause.failed };
      lists = lists_skip c.args.site.now (numbered c.args.first c.args.number) c.args.finds.now;
      err = refl;
    })

pub returns-in_err-seen-clause-counted : goal.returns-in_err-seen-clause-counted
returns-in_err-seen-clause-counted g c =
    rw (err_is c.from_residual-in_err-seen.result Failed c.from_residual-in_err-seen.ensures.1)
    (counted_one g.S.Shelf c.args.shelf.now c.look_at.new.shelf 3 (λ t n. Unit {0}) (omega arith) c.look_at.ensures.counted (λ t is. tt))

-- its slots were read too
pub returns-clause-counted : goal.returns-clause-counted
returns-clause-counted g c =
    let here : Replica = record { line = c.args.first.line; number = c.args.number; first = c.args.first.first; head = c.in-Some.head } in
    number_counted g.S.Shelf c.args.geometry.now c.args.site.now c.args.first.line c.args.first.first c.args.number c.in-Some.head c.args.shelf.now c.look_at.new.shelf c.visit.new.shelf c.visit.result
    c.in_ok-seen.ensures.reads.same c.look_at.ensures.counted (placed_of (numbered c.args.first c.args.number) c.requires.numbered (c.ends_within.ensures.0 c.if-not-ends_within.false)) (λ t is. (head_of (at_of (numbered c.args.first c.args.number)) (size_on c.args.site.now c.args.first.line) (last t c.args.first.line.at.drive.0) c.in_ok-seen.seen c.in-Some.head c.in-Some.ensures.some.0 (there_of (g.S.Shelf.sizes c.args.shelf.now) c.args.site.now c.requires.on_shelf (numbered c.args.first c.args.number) c.at.result c.at.ensures t c.in_ok-seen.seen (c.in_ok-seen.ensures.reads.gave t is)))) c.in-Some.ensures.some.1
    (λ t is. chained_of c.args.geometry.now c.args.site.now here (last t) c.args.finds.now c.visit.new.finds (head_of (at_of (numbered c.args.first c.args.number)) (size_on c.args.site.now c.args.first.line) (last t c.args.first.line.at.drive.0) c.in_ok-seen.seen c.in-Some.head c.in-Some.ensures.some.0 (there_of (g.S.Shelf.sizes c.args.shelf.now) c.args.site.now c.requires.on_shelf (numbered c.args.first c.args.number) c.at.result c.at.ensures t c.in_ok-seen.seen (c.in_ok-seen.ensures.reads.gave t is))) c.visit.result
    (c.visit.ensures.reads.gave t (c.in_ok-seen.ensures.reads.same ∙ is)))
    c.visit.ensures.counted

pub returns-clause-kept : goal.returns-clause-kept
returns-clause-kept g c =
    read_on_more g.S.Shelf c.args.shelf.now c.look_at.new.shelf c.visit.new.shelf c.args.first.line.at.drive.0 1 c.look_at.ensures.counted (calm_here c.at.result (at_of (numbered c.args.first c.args.number)) c.at.ensures g.S.Shelf c.args.shelf.now c.look_at.new.shelf c.in_ok-seen.ensures.cause.calm) (kept_here c.at.result (at_of (numbered c.args.first c.args.number)) c.at.ensures g.S.Shelf c.args.shelf.now c.look_at.new.shelf c.look_at.ensures.kept) c.visit.ensures.kept

-- there is no memory for the place, since the slice ends before it would
pub returns-in_err-add_other-clause-answer : goal.returns-in_err-add_other-clause-answer
returns-in_err-add_other-clause-answer g c =
    rw (err_is c.from_residual.result Memory c.from_residual.ensures.1)
    (record {
      read = record { calm = tt; cause = refl };
      lists = subst (ListsNext c.args.site.now c.args.first.line c.args.number c.args.finds.now) (sym c.in_err-add_other.ensures.err) (lists_skip c.args.site.now (numbered c.args.first c.args.number) c.args.finds.now);
      err = c.in_err-add_other.ensures.err;
    })

-- the slice ends before
pub returns-then-not-ends_within-clause-answer : goal.returns-then-not-ends_within-clause-answer
returns-then-not-ends_within-clause-answer g c = record {
  read = record { calm = refl; cause = tt };
  lists = subst (ListsNext c.args.site.now c.args.first.line c.args.number c.args.finds.now) (sym (added_is c.args.finds.now c.add_other.new.self c.as_other.result (other_of (numbered c.args.first c.args.number) (unread_flags false false)) c.in_ok-add_other.ensures.ok (c.as_other.ensures ∙ ap (other_of (numbered c.args.first c.args.number)) c.unread.ensures))) (lists_other c.args.site.now (numbered c.args.first c.args.number) c.args.finds.now (unread_flags false false));
  err = tt;
}

pub returns-then-not-ends_within-clause-reads : goal.returns-then-not-ends_within-clause-reads
returns-then-not-ends_within-clause-reads g c = record {
  same = refl;
  gave = λ t is. subst (λ (new : Finds). Looks c.args.geometry.now c.args.site.now c.args.first.line c.args.first.first c.args.number (last t) false c.args.finds.now new)
      (sym (added_is c.args.finds.now c.add_other.new.self c.as_other.result (other_of (numbered c.args.first c.args.number) (unread_flags false false)) c.in_ok-add_other.ensures.ok (c.as_other.ensures ∙ ap (other_of (numbered c.args.first c.args.number)) c.unread.ensures)))
      (looks_beyond c.args.geometry.now c.args.site.now (numbered c.args.first c.args.number) c.requires.seated.one_of c.requires.behind c.requires.numbered (last t) c.args.finds.now
      (beyond_of (numbered c.args.first c.args.number) c.ends_within.result c.if-not-ends_within.true c.ends_within.ensures));
}

-- there is no memory for the place, whose head isn't there
pub returns-in_err-add_other-2-clause-answer : goal.returns-in_err-add_other-2-clause-answer
returns-in_err-add_other-2-clause-answer g c =
    rw (err_is c.from_residual-in_err-add_other-2.result Memory c.from_residual-in_err-add_other-2.ensures.1)
    (record {
      read = record { calm = tt; cause = calm_here c.at.result (at_of (numbered c.args.first c.args.number)) c.at.ensures g.S.Shelf c.args.shelf.now c.look_at.new.shelf c.in_ok-seen.ensures.cause.calm };
      lists = subst (ListsNext c.args.site.now c.args.first.line c.args.number c.args.finds.now) (sym c.in_err-add_other-2.ensures.err) (lists_skip c.args.site.now (numbered c.args.first c.args.number) c.args.finds.now);
      err = c.in_err-add_other-2.ensures.err;
    })

pub returns-in_err-add_other-2-clause-counted : goal.returns-in_err-add_other-2-clause-counted
returns-in_err-add_other-2-clause-counted g c =
    rw (err_is c.from_residual-in_err-add_other-2.result Memory c.from_residual-in_err-add_other-2.ensures.1)
    (counted_one g.S.Shelf c.args.shelf.now c.look_at.new.shelf 3 (λ t n. Unit {0}) (omega arith) c.look_at.ensures.counted (λ t is. tt))

-- no head of the slice's length is there
pub returns-in_default-clause-answer : goal.returns-in_default-clause-answer
returns-in_default-clause-answer g c = record {
  read = record { calm = calm_here c.at.result (at_of (numbered c.args.first c.args.number)) c.at.ensures g.S.Shelf c.args.shelf.now c.look_at.new.shelf c.in_ok-seen.ensures.cause.calm; cause = tt };
  lists = subst (ListsNext c.args.site.now c.args.first.line c.args.number c.args.finds.now) (sym (added_is c.args.finds.now c.add_other-in_default.new.self c.as_other-in_default.result (other_of (numbered c.args.first c.args.number) (unread_flags c.is_located-located.result c.in_ok-seen.seen.flags.form_fault)) c.in_ok-add_other-2.ensures.ok (c.as_other-in_default.ensures ∙ ap (other_of (numbered c.args.first c.args.number)) c.unread-in_default.ensures))) (lists_other c.args.site.now (numbered c.args.first c.args.number) c.args.finds.now (unread_flags c.is_located-located.result c.in_ok-seen.seen.flags.form_fault));
  err = tt;
}

pub returns-in_default-clause-reads : goal.returns-in_default-clause-reads
returns-in_default-clause-reads g c = record {
  same = c.in_ok-seen.ensures.reads.same;
  gave = λ t is. subst (λ (new : Finds). Looks c.args.geometry.now c.args.site.now c.args.first.line c.args.first.first c.args.number (last t) false c.args.finds.now new)
      (sym (added_is c.args.finds.now c.add_other-in_default.new.self c.as_other-in_default.result (other_of (numbered c.args.first c.args.number) (unread_flags c.is_located-located.result c.in_ok-seen.seen.flags.form_fault)) c.in_ok-add_other-2.ensures.ok (c.as_other-in_default.ensures ∙ ap (other_of (numbered c.args.first c.args.number)) c.unread-in_default.ensures)))
      (looks_unread c.args.geometry.now c.args.site.now (numbered c.args.first c.args.number) c.requires.seated.one_of c.requires.behind c.requires.numbered (last t) c.args.finds.now (c.ends_within.ensures.0 c.if-not-ends_within.false) c.in_ok-seen.seen (c.head_of_length.ensures.none c.in_default.is) c.is_located-located.result c.is_located-located.ensures
      (there_of (g.S.Shelf.sizes c.args.shelf.now) c.args.site.now c.requires.on_shelf (numbered c.args.first c.args.number) c.at.result c.at.ensures t c.in_ok-seen.seen (c.in_ok-seen.ensures.reads.gave t is)));
}

pub returns-in_default-clause-counted : goal.returns-in_default-clause-counted
returns-in_default-clause-counted g c =
    counted_one g.S.Shelf c.args.shelf.now c.look_at.new.shelf 3 _ (omega arith) c.look_at.ensures.counted
    (λ t is. inr (unreadable_unread c.args.geometry.now c.args.site.now c.args.first.line c.args.first.first (last t c.args.first.line.at.drive.0) c.args.number c.in_ok-seen.seen.head (placed_of (numbered c.args.first c.args.number) c.requires.numbered (c.ends_within.ensures.0 c.if-not-ends_within.false))
    (there_of (g.S.Shelf.sizes c.args.shelf.now) c.args.site.now c.requires.on_shelf (numbered c.args.first c.args.number) c.at.result c.at.ensures t c.in_ok-seen.seen (c.in_ok-seen.ensures.reads.gave t is)).there (c.head_of_length.ensures.none c.in_default.is)))
