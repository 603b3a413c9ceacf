use Rattle.std.proofs.Common.{◌<◌, ◌≤◌, ◌∙◌, Bool, length, Ok, Err, sym, subst, arith}
use Rattle.std.specs.Prelude.{slice_index_or}
use Rattle.mdv_survey.specs.Below.{PlaceAt, last, size_on}
use Rattle.mdv_survey.specs.Counts.{IsCounted, IsVisitBy}
use Rattle.mdv_survey.specs.Others.{first_at, first_of, most_on}
use Rattle.mdv_survey.specs.Replica.{at_of}
use Rattle.mdv_survey.specs.Slice.{ListsRest, LooksAtAll, Visits}
use Rattle.mdv_survey.specs.declared.body.ReadFault.{ReadFault}
use Rattle.mdv_survey.specs.declared.body.ReadFault.TheVariants.{Memory}
use Rattle.mdv_survey.specs.declared.replica.Finds.{Finds}
use Rattle.mdv_survey.proofs.Counting.{err_is}
use Rattle.mdv_survey.proofs.Ending.{read_on_more}
use Rattle.mdv_survey.proofs.Efforts.{counted_more, counted_one}
use Rattle.mdv_survey.proofs.Places.{calm_here, kept_here}
use Rattle.mdv_survey.proofs.Seating.{in_drive, known_drive}
use Rattle.mdv_survey.proofs.Slicing.{all_counted, failed_counted, first_replica, first_there, head_of, headless_by, lists_first, rest_none, rest_one, slice_all, slice_headless, slice_unreadable, unreadable_counted}
use Rattle.mdv_survey.proofs.Told.{added_is, with_other}
use Rattle.mdv_survey.proofs.slice.look_at_slice.Goals as goal

pub look_at-requires-clause-known : goal.look_at-requires-clause-known
look_at-requires-clause-known g c = subst (λ (p : PlaceAt). p.drive.0 < length (g.S.Shelf.sizes c.args.shelf.now)) (sym c.first_place.ensures) (known_drive (g.S.Shelf.sizes c.args.shelf.now) c.args.site.now c.requires.on_shelf c.args.line c.requires.one_of)

pub look_at-requires-clause-within : goal.look_at-requires-clause-within
look_at-requires-clause-within g c =
    let long = c.requires.on_shelf.site_is.long c.args.line c.requires.one_of in
    subst (λ (p : PlaceAt). p.first < slice_index_or (g.S.Shelf.sizes c.args.shelf.now) p.drive.0 0) (sym c.first_place.ensures) (in_drive (g.S.Shelf.sizes c.args.shelf.now) c.args.site.now c.requires.on_shelf c.args.line c.requires.one_of 16 (omega (arith, long)))

-- its first head couldn't be read
pub returns-in_err-seen-clause-listed : goal.returns-in_err-seen-clause-listed
returns-in_err-seen-clause-listed g c = rest_none c.args.geometry.now c.args.site.now c.args.line c.args.finds.now

-- there is no memory for a place without a head
pub returns-in_err-add_other-clause-listed : goal.returns-in_err-add_other-clause-listed
returns-in_err-add_other-clause-listed g c =
    subst (ListsRest c.args.site.now c.args.line 0 c.args.finds.now) (sym c.in_err-add_other.ensures.err) (rest_none c.args.geometry.now c.args.site.now c.args.line c.args.finds.now)

pub returns-in_err-add_other-clause-reads : goal.returns-in_err-add_other-clause-reads
returns-in_err-add_other-clause-reads g c =
    rw (err_is c.from_residual-in_err-add_other.result Memory c.from_residual-in_err-add_other.ensures.1)
    (record {
      same = c.in_ok-seen.ensures.reads.same;
      gave = λ t is. subst (λ (new : Finds). LooksAtAll c.args.geometry.now c.args.site.now c.args.line (last t) c.args.finds.now new (Err Memory)) (sym c.in_err-add_other.ensures.err) (λ answers lines found. found);
    })

pub returns-in_err-add_other-clause-counted : goal.returns-in_err-add_other-clause-counted
returns-in_err-add_other-clause-counted g c =
    rw (err_is c.from_residual-in_err-add_other.result Memory c.from_residual-in_err-add_other.ensures.1)
    (counted_one g.S.Shelf c.args.shelf.now c.look_at.new.shelf 765 (λ t n. (1 ≤ n) × Unit {0}) (omega arith) c.look_at.ensures.counted (λ t is. (omega arith, tt)))

-- there is no head
pub returns-in_default-clause-listed : goal.returns-in_default-clause-listed
returns-in_default-clause-listed g c =
    subst (ListsRest c.args.site.now c.args.line 0 c.args.finds.now) (sym (added_is c.args.finds.now c.add_other.new.self c.first_other.result (first_of c.args.line c.in_ok-seen.seen.flags) c.in_ok-add_other.ensures.ok c.first_other.ensures))
    (rest_one c.args.geometry.now c.args.site.now c.args.line c.args.finds.now (with_other c.args.finds.now (first_of c.args.line c.in_ok-seen.seen.flags)) (lists_first c.args.geometry.now c.args.site.now c.args.line c.args.finds.now c.in_ok-seen.seen.flags))

pub returns-in_default-clause-reads : goal.returns-in_default-clause-reads
returns-in_default-clause-reads g c = record {
  same = c.in_ok-seen.ensures.reads.same;
  gave = λ t is. subst (λ (new : Finds). LooksAtAll {E = ReadFault} c.args.geometry.now c.args.site.now c.args.line (last t) c.args.finds.now new (Ok tt)) (sym (added_is c.args.finds.now c.add_other.new.self c.first_other.result (first_of c.args.line c.in_ok-seen.seen.flags) c.in_ok-add_other.ensures.ok c.first_other.ensures))
      (slice_headless c.args.geometry.now c.args.site.now c.args.line c.requires.one_of (c.requires.on_shelf.site_is.long c.args.line c.requires.one_of) (last t) c.args.finds.now c.in_ok-seen.seen c.in_default.is (first_there (g.S.Shelf.sizes c.args.shelf.now) c.args.site.now c.requires.on_shelf c.args.line c.first_place.result c.first_place.ensures t c.in_ok-seen.seen (c.in_ok-seen.ensures.reads.gave t is)));
}

pub returns-in_default-clause-counted : goal.returns-in_default-clause-counted
returns-in_default-clause-counted g c =
    counted_one g.S.Shelf c.args.shelf.now c.look_at.new.shelf 765 _ (omega arith) c.look_at.ensures.counted
    (λ t is. (omega arith, headless_by c.args.geometry.now c.args.site.now c.args.line (last t c.args.line.at.drive.0) c.in_ok-seen.seen c.in_default.is (first_there (g.S.Shelf.sizes c.args.shelf.now) c.args.site.now c.requires.on_shelf c.args.line c.first_place.result c.first_place.ensures t c.in_ok-seen.seen (c.in_ok-seen.ensures.reads.gave t is))))

-- there is no memory for a body
pub returns-in_err-body-clause-listed : goal.returns-in_err-body-clause-listed
returns-in_err-body-clause-listed g c = rest_none c.args.geometry.now c.args.site.now c.args.line c.args.finds.now

pub returns-in_err-body-clause-counted : goal.returns-in_err-body-clause-counted
returns-in_err-body-clause-counted g c =
    rw (err_is c.from_residual-in_err-body.result Memory c.from_residual-in_err-body.ensures.1)
    (counted_one g.S.Shelf c.args.shelf.now c.look_at.new.shelf 765 (λ t n. (1 ≤ n) × Unit {0}) (omega arith) c.look_at.ensures.counted (λ t is. (omega arith, tt)))

-- the first replica couldn't be read
pub returns-in_err-visit-clause-listed : goal.returns-in_err-visit-clause-listed
returns-in_err-visit-clause-listed g c = rest_one c.args.geometry.now c.args.site.now c.args.line c.args.finds.now c.visit.new.finds c.visit.ensures.answer.lists

pub returns-in_err-visit-clause-counted : goal.returns-in_err-visit-clause-counted
returns-in_err-visit-clause-counted g c =
    rw (err_is c.from_residual-in_err-visit.result c.in_err-visit.field-0.0 c.from_residual-in_err-visit.ensures.1)
    (failed_counted g.S.Shelf c.args.shelf.now c.look_at.new.shelf c.visit.new.shelf c.in_ok-seen.ensures.reads.same c.look_at.ensures.counted 2 765 (omega arith) c.in_err-visit.ensures.counted)

pub returns-in_err-visit-clause-kept : goal.returns-in_err-visit-clause-kept
returns-in_err-visit-clause-kept g c =
    read_on_more g.S.Shelf c.args.shelf.now c.look_at.new.shelf c.visit.new.shelf c.args.line.at.drive.0 1 c.look_at.ensures.counted (calm_here c.first_place.result (first_at c.args.line (most_on c.args.line)) c.first_place.ensures g.S.Shelf c.args.shelf.now c.look_at.new.shelf c.in_ok-seen.ensures.cause.calm) (kept_here c.first_place.result (first_at c.args.line (most_on c.args.line)) c.first_place.ensures g.S.Shelf c.args.shelf.now c.look_at.new.shelf c.look_at.ensures.kept) c.visit.ensures.kept

-- it isn't readable
pub returns-then-not-branch-clause-listed : goal.returns-then-not-branch-clause-listed
returns-then-not-branch-clause-listed g c = rest_one c.args.geometry.now c.args.site.now c.args.line c.args.finds.now c.visit.new.finds c.visit.ensures.answer.lists

pub returns-then-not-branch-clause-reads : goal.returns-then-not-branch-clause-reads
returns-then-not-branch-clause-reads g c = record {
  same = c.in_ok-visit.ensures.reads.same ∙ c.in_ok-seen.ensures.reads.same;
  gave = λ t is. slice_unreadable c.args.geometry.now c.args.site.now c.args.line c.in-Some.head (last t) (head_of (first_at c.args.line (most_on c.args.line)) (size_on c.args.site.now c.args.line) (last t c.args.line.at.drive.0) c.in_ok-seen.seen c.in-Some.head c.in-Some.is (first_there (g.S.Shelf.sizes c.args.shelf.now) c.args.site.now c.requires.on_shelf c.args.line c.first_place.result c.first_place.ensures t c.in_ok-seen.seen (c.in_ok-seen.ensures.reads.gave t is))) c.args.finds.now c.visit.new.finds (subst (Visits c.args.geometry.now c.args.site.now (first_replica c.args.geometry.now c.args.site.now c.args.line c.in-Some.head) (last t) c.args.finds.now c.visit.new.finds) c.if-not-branch.true (c.in_ok-visit.ensures.reads.gave t (c.in_ok-seen.ensures.reads.same ∙ is)));
}

pub returns-then-not-branch-clause-counted : goal.returns-then-not-branch-clause-counted
returns-then-not-branch-clause-counted g c =
    unreadable_counted g.S.Shelf c.args.shelf.now c.look_at.new.shelf c.visit.new.shelf c.in_ok-seen.ensures.reads.same c.look_at.ensures.counted c.args.geometry.now c.args.site.now c.args.line c.in-Some.head
    (λ t is. (head_of (first_at c.args.line (most_on c.args.line)) (size_on c.args.site.now c.args.line) (last t c.args.line.at.drive.0) c.in_ok-seen.seen c.in-Some.head c.in-Some.is (first_there (g.S.Shelf.sizes c.args.shelf.now) c.args.site.now c.requires.on_shelf c.args.line c.first_place.result c.first_place.ensures t c.in_ok-seen.seen (c.in_ok-seen.ensures.reads.gave t is)))) c.args.finds.now c.visit.new.finds
    (λ t is. (subst (Visits c.args.geometry.now c.args.site.now (first_replica c.args.geometry.now c.args.site.now c.args.line c.in-Some.head) (last t) c.args.finds.now c.visit.new.finds) c.if-not-branch.true (c.in_ok-visit.ensures.reads.gave t (c.in_ok-seen.ensures.reads.same ∙ is))))
    (subst (λ (b : Bool). IsCounted g.S.Shelf c.look_at.new.shelf c.visit.new.shelf 2 (λ t n. IsVisitBy c.args.geometry.now (at_of (first_replica c.args.geometry.now c.args.site.now c.args.line c.in-Some.head)) (last t c.args.line.at.drive.0) c.in-Some.head b n)) c.if-not-branch.true c.in_ok-visit.ensures.counted)

pub returns-then-not-branch-clause-kept : goal.returns-then-not-branch-clause-kept
returns-then-not-branch-clause-kept g c =
    read_on_more g.S.Shelf c.args.shelf.now c.look_at.new.shelf c.visit.new.shelf c.args.line.at.drive.0 1 c.look_at.ensures.counted (calm_here c.first_place.result (first_at c.args.line (most_on c.args.line)) c.first_place.ensures g.S.Shelf c.args.shelf.now c.look_at.new.shelf c.in_ok-seen.ensures.cause.calm) (kept_here c.first_place.result (first_at c.args.line (most_on c.args.line)) c.first_place.ensures g.S.Shelf c.args.shelf.now c.look_at.new.shelf c.look_at.ensures.kept) c.visit.ensures.kept

-- those behind it couldn't be read
pub returns-in_err-look_behind-clause-reads : goal.returns-in_err-look_behind-clause-reads
returns-in_err-look_behind-clause-reads g c =
    rw (err_is c.from_residual-in_err-look_behind.result c.in_err-look_behind.field-0.0 c.from_residual-in_err-look_behind.ensures.1)
    (record {
      same = c.in_err-look_behind.ensures.reads.same ∙ c.in_ok-visit.ensures.reads.same ∙ c.in_ok-seen.ensures.reads.same;
      gave = λ t is. slice_all c.args.geometry.now c.args.site.now c.args.line c.in-Some.head (last t) (head_of (first_at c.args.line (most_on c.args.line)) (size_on c.args.site.now c.args.line) (last t c.args.line.at.drive.0) c.in_ok-seen.seen c.in-Some.head c.in-Some.is (first_there (g.S.Shelf.sizes c.args.shelf.now) c.args.site.now c.requires.on_shelf c.args.line c.first_place.result c.first_place.ensures t c.in_ok-seen.seen (c.in_ok-seen.ensures.reads.gave t is))) c.args.finds.now c.visit.new.finds c.look_behind.new.finds (Err c.in_err-look_behind.field-0.0) (subst (Visits c.args.geometry.now c.args.site.now (first_replica c.args.geometry.now c.args.site.now c.args.line c.in-Some.head) (last t) c.args.finds.now c.visit.new.finds) c.if-not-branch.false (c.in_ok-visit.ensures.reads.gave t (c.in_ok-seen.ensures.reads.same ∙ is)))
          (c.in_err-look_behind.ensures.reads.gave t (c.in_ok-visit.ensures.reads.same ∙ c.in_ok-seen.ensures.reads.same ∙ is));
    })

pub returns-in_err-look_behind-clause-counted : goal.returns-in_err-look_behind-clause-counted
returns-in_err-look_behind-clause-counted g c =
    rw (err_is c.from_residual-in_err-look_behind.result c.in_err-look_behind.field-0.0 c.from_residual-in_err-look_behind.ensures.1)
    (failed_counted g.S.Shelf c.args.shelf.now c.look_at.new.shelf c.look_behind.new.shelf c.in_ok-seen.ensures.reads.same c.look_at.ensures.counted 764 765 (omega arith)
    (counted_more g.S.Shelf c.look_at.new.shelf c.visit.new.shelf c.look_behind.new.shelf 2 762 764 _ (λ t n. Unit {0}) (λ t n. Unit {0}) (omega arith) c.in_ok-visit.ensures.reads.same (λ t m n is one other. tt)
    c.in_ok-visit.ensures.counted c.in_err-look_behind.ensures.counted))

pub returns-in_err-look_behind-clause-kept : goal.returns-in_err-look_behind-clause-kept
returns-in_err-look_behind-clause-kept g c =
    read_on_more g.S.Shelf c.args.shelf.now c.look_at.new.shelf c.look_behind.new.shelf c.args.line.at.drive.0 1 c.look_at.ensures.counted (calm_here c.first_place.result (first_at c.args.line (most_on c.args.line)) c.first_place.ensures g.S.Shelf c.args.shelf.now c.look_at.new.shelf c.in_ok-seen.ensures.cause.calm) (kept_here c.first_place.result (first_at c.args.line (most_on c.args.line)) c.first_place.ensures g.S.Shelf c.args.shelf.now c.look_at.new.shelf c.look_at.ensures.kept) (read_on_more g.S.Shelf c.look_at.new.shelf c.visit.new.shelf c.look_behind.new.shelf c.args.line.at.drive.0 c.in_ok-visit.ensures.counted.calls c.in_ok-visit.ensures.counted.made c.in_ok-visit.ensures.answer.read.calm c.visit.ensures.kept c.look_behind.ensures.kept)

-- all were looked at
pub returns-clause-reads : goal.returns-clause-reads
returns-clause-reads g c = record {
  same = c.in_ok-look_behind.ensures.reads.same ∙ c.in_ok-visit.ensures.reads.same ∙ c.in_ok-seen.ensures.reads.same;
  gave = λ t is. slice_all c.args.geometry.now c.args.site.now c.args.line c.in-Some.head (last t) (head_of (first_at c.args.line (most_on c.args.line)) (size_on c.args.site.now c.args.line) (last t c.args.line.at.drive.0) c.in_ok-seen.seen c.in-Some.head c.in-Some.is (first_there (g.S.Shelf.sizes c.args.shelf.now) c.args.site.now c.requires.on_shelf c.args.line c.first_place.result c.first_place.ensures t c.in_ok-seen.seen (c.in_ok-seen.ensures.reads.gave t is))) c.args.finds.now c.visit.new.finds c.look_behind.new.finds (Ok tt) (subst (Visits c.args.geometry.now c.args.site.now (first_replica c.args.geometry.now c.args.site.now c.args.line c.in-Some.head) (last t) c.args.finds.now c.visit.new.finds) c.if-not-branch.false (c.in_ok-visit.ensures.reads.gave t (c.in_ok-seen.ensures.reads.same ∙ is)))
      (c.in_ok-look_behind.ensures.reads.gave t (c.in_ok-visit.ensures.reads.same ∙ c.in_ok-seen.ensures.reads.same ∙ is));
}

pub returns-clause-counted : goal.returns-clause-counted
returns-clause-counted g c =
    all_counted g.S.Shelf c.args.shelf.now c.look_at.new.shelf c.visit.new.shelf c.in_ok-seen.ensures.reads.same c.look_at.ensures.counted c.args.geometry.now c.args.site.now c.args.line c.in-Some.head
    (λ t is. (head_of (first_at c.args.line (most_on c.args.line)) (size_on c.args.site.now c.args.line) (last t c.args.line.at.drive.0) c.in_ok-seen.seen c.in-Some.head c.in-Some.is (first_there (g.S.Shelf.sizes c.args.shelf.now) c.args.site.now c.requires.on_shelf c.args.line c.first_place.result c.first_place.ensures t c.in_ok-seen.seen (c.in_ok-seen.ensures.reads.gave t is)))) c.args.finds.now c.visit.new.finds c.look_behind.new.shelf c.in_ok-visit.ensures.reads.same
    (λ t is. (subst (Visits c.args.geometry.now c.args.site.now (first_replica c.args.geometry.now c.args.site.now c.args.line c.in-Some.head) (last t) c.args.finds.now c.visit.new.finds) c.if-not-branch.false (c.in_ok-visit.ensures.reads.gave t (c.in_ok-seen.ensures.reads.same ∙ is))))
    (subst (λ (b : Bool). IsCounted g.S.Shelf c.look_at.new.shelf c.visit.new.shelf 2 (λ t n. IsVisitBy c.args.geometry.now (at_of (first_replica c.args.geometry.now c.args.site.now c.args.line c.in-Some.head)) (last t c.args.line.at.drive.0) c.in-Some.head b n)) c.if-not-branch.false c.in_ok-visit.ensures.counted)
    c.in_ok-look_behind.ensures.counted

pub returns-clause-kept : goal.returns-clause-kept
returns-clause-kept g c =
    read_on_more g.S.Shelf c.args.shelf.now c.look_at.new.shelf c.look_behind.new.shelf c.args.line.at.drive.0 1 c.look_at.ensures.counted (calm_here c.first_place.result (first_at c.args.line (most_on c.args.line)) c.first_place.ensures g.S.Shelf c.args.shelf.now c.look_at.new.shelf c.in_ok-seen.ensures.cause.calm) (kept_here c.first_place.result (first_at c.args.line (most_on c.args.line)) c.first_place.ensures g.S.Shelf c.args.shelf.now c.look_at.new.shelf c.look_at.ensures.kept) (read_on_more g.S.Shelf c.look_at.new.shelf c.visit.new.shelf c.look_behind.new.shelf c.args.line.at.drive.0 c.in_ok-visit.ensures.counted.calls c.in_ok-visit.ensures.counted.made c.in_ok-visit.ensures.answer.read.calm c.visit.ensures.kept c.look_behind.ensures.kept)
