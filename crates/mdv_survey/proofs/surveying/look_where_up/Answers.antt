use Rattle.std.proofs.Common.{◌∙◌, refl, sym, subst, arith}
use Rattle.mdv_shelf.specs.Calls.{OnDrive}
use Rattle.mdv_shelf.specs.Shelves.{DriveFailures}
use Rattle.mdv_survey.specs.Below.{has_drive, last}
use Rattle.mdv_survey.specs.Counts.{IsLineBy}
use Rattle.mdv_survey.specs.Slots.{HasReadCause}
use Rattle.mdv_survey.specs.Survey.{answers_in}
use Rattle.mdv_survey.proofs.Among.{among_reads}
use Rattle.mdv_survey.proofs.Efforts.{counted_none}
use Rattle.mdv_survey.proofs.Ending.{kept_none, read_on_none}
use Rattle.mdv_survey.proofs.Lines.{failed_none, failed_one, line_answered, line_down, line_failed, looks_down, looks_failed, unfailed_of, up_of}
use Rattle.mdv_survey.proofs.Listing.{listed_end}
use Rattle.mdv_survey.proofs.Seating.{known_drive}
use Rattle.mdv_survey.proofs.surveying.look_where_up.Goals as goal

-- the drive isn't up, or a call on it had failed
pub returns-then-not-is_answering-clause-listed : goal.returns-then-not-is_answering-clause-listed
returns-then-not-is_answering-clause-listed g c lines rest split listed = listed_end c.args.site.now c.args.up.now lines c.args.line 0 c.args.finds.now listed

pub returns-then-not-is_answering-clause-reads : goal.returns-then-not-is_answering-clause-reads
returns-then-not-is_answering-clause-reads g c = record {
  same = refl;
  gave = λ t is. looks_down c.args.geometry.now c.args.site.now _ c.args.up.now c.args.failed.now c.args.line c.args.finds.now (sym c.is_answering.ensures ∙ c.if-not-is_answering.true);
}

pub insert-requires : goal.insert-requires
insert-requires g c =
    let known = known_drive (g.S.Shelf.sizes c.args.shelf.now) c.args.site.now c.requires.on_shelf c.args.line c.requires.one_of in
    let few = c.requires.on_shelf.drives.few in
    omega (arith, known, few)

-- the slice was looked at
pub returns-in-Ok-clause-reads : goal.returns-in-Ok-clause-reads
returns-in-Ok-clause-reads g c = record {
  same = c.in-Ok.ensures.reads.same;
  gave = λ t is lines found. c.in-Ok.ensures.reads.gave t is (answers_in c.args.up.now c.args.failed.now) lines found;
}

pub returns-in-Ok-clause-kept : goal.returns-in-Ok-clause-kept
returns-in-Ok-clause-kept g c = λ start among. among_reads g.S.Shelf g.met.S.Shelf.telling start c.args.shelf.now c.look_at_slice.new.shelf c.args.site.now.drives c.args.line.at.drive (c.requires.on_shelf.brought c.args.line c.requires.one_of) c.in-Ok.ensures.reads.same c.look_at_slice.ensures.kept.kept among

-- a call on its drive failed
pub returns-in-Err-Failed-clause-reads : goal.returns-in-Err-Failed-clause-reads
returns-in-Err-Failed-clause-reads g c = record {
  same = c.in-Err-Failed.ensures.reads.same;
  gave = λ t is. looks_failed c.args.geometry.now c.args.site.now (last t) c.args.up.now c.args.failed.now c.insert.new.self c.args.line c.args.finds.now c.look_at_slice.new.finds c.insert.ensures.added c.insert.ensures.others
      (λ answers lines found. c.in-Err-Failed.ensures.reads.gave t is answers lines found);
}

pub returns-in-Err-Failed-clause-kept : goal.returns-in-Err-Failed-clause-kept
returns-in-Err-Failed-clause-kept g c = λ start among. among_reads g.S.Shelf g.met.S.Shelf.telling start c.args.shelf.now c.look_at_slice.new.shelf c.args.site.now.drives c.args.line.at.drive (c.requires.on_shelf.brought c.args.line c.requires.one_of) c.in-Err-Failed.ensures.reads.same c.look_at_slice.ensures.kept.kept among

pub returns-in-Err-Memory-clause-kept : goal.returns-in-Err-Memory-clause-kept
returns-in-Err-Memory-clause-kept g c = λ start among. among_reads g.S.Shelf g.met.S.Shelf.telling start c.args.shelf.now c.look_at_slice.new.shelf c.args.site.now.drives c.args.line.at.drive (c.requires.on_shelf.brought c.args.line c.requires.one_of) c.in-Err-Memory.ensures.reads.same c.look_at_slice.ensures.kept.kept among

pub returns-in-Ok-clause-counted : goal.returns-in-Ok-clause-counted
returns-in-Ok-clause-counted g c = record {
  calls = c.in-Ok.ensures.counted.calls;
  few = c.in-Ok.ensures.counted.few;
  made = c.in-Ok.ensures.counted.made;
  by = λ t is. line_answered c.args.geometry.now c.args.site.now (last t) c.args.up.now c.args.failed.now c.args.line c.in-Ok.ensures.counted.calls (sym c.is_answering.ensures ∙ c.if-not-is_answering.false) c.in-Ok.ensures.counted.few
      (c.in-Ok.ensures.counted.by t is).1;
}

-- nothing was done
pub returns-then-not-is_answering-clause-looked : goal.returns-then-not-is_answering-clause-looked
returns-then-not-is_answering-clause-looked g c =
    let down = sym c.is_answering.ensures ∙ c.if-not-is_answering.true in
    record {
      read = read_on_none g.S.Shelf c.args.shelf.now c.args.line.at.drive.0;
      passed = λ so. (refl, refl);
      failed = failed_none g.S.Shelf c.args.shelf.now c.args.shelf.now c.args.line.at.drive c.args.up.now c.args.failed.now (kept_none g.S.Shelf c.args.shelf.now (OnDrive c.args.line.at.drive.0)) refl;
      counted = counted_none g.S.Shelf c.args.shelf.now 765 (λ t n. IsLineBy c.args.geometry.now c.args.site.now c.args.up.now c.args.failed.now (last t) c.args.line n) (λ t. line_down c.args.geometry.now c.args.site.now (last t) c.args.up.now c.args.failed.now c.args.line down);
    }

-- its calls were answered
pub returns-in-Ok-clause-looked : goal.returns-in-Ok-clause-looked
returns-in-Ok-clause-looked g c =
    let answered = sym c.is_answering.ensures ∙ c.if-not-is_answering.false in
    record {
      read = c.look_at_slice.ensures.kept;
      passed = λ down. absurd (cc (down, answered));
      failed = failed_none g.S.Shelf c.args.shelf.now c.look_at_slice.new.shelf c.args.line.at.drive c.args.up.now c.args.failed.now c.look_at_slice.ensures.kept.kept c.in-Ok.ensures.answer.calm;
      counted = record {
        calls = c.in-Ok.ensures.counted.calls;
        few = c.in-Ok.ensures.counted.few;
        made = c.in-Ok.ensures.counted.made;
        by = λ t is. line_answered c.args.geometry.now c.args.site.now (last t) c.args.up.now c.args.failed.now c.args.line c.in-Ok.ensures.counted.calls answered c.in-Ok.ensures.counted.few (c.in-Ok.ensures.counted.by t is).1;
      };
    }

-- one failed
pub returns-in-Err-Failed-clause-looked : goal.returns-in-Err-Failed-clause-looked
returns-in-Err-Failed-clause-looked g c =
    let drive = c.args.line.at.drive in
    let answered = sym c.is_answering.ensures ∙ c.if-not-is_answering.false in
    let is_up = up_of (has_drive c.args.up.now drive) (has_drive c.args.failed.now drive) answered in
    record {
      read = c.look_at_slice.ensures.kept;
      passed = λ down. absurd (cc (down, answered));
      failed = failed_one g.S.Shelf c.args.shelf.now c.look_at_slice.new.shelf drive c.args.up.now c.args.failed.now c.insert.new.self c.look_at_slice.ensures.kept.kept
          (subst (HasReadCause (DriveFailures g.S.Shelf c.args.shelf.now c.look_at_slice.new.shelf drive.0)) c.in-Err-Failed.field-0-is c.in-Err-Failed.ensures.answer.cause)
          (unfailed_of (has_drive c.args.up.now drive) (has_drive c.args.failed.now drive) answered) c.insert.ensures.added c.insert.ensures.others is_up;
      counted = record {
        calls = c.in-Err-Failed.ensures.counted.calls;
        few = c.in-Err-Failed.ensures.counted.few;
        made = c.in-Err-Failed.ensures.counted.made;
        by = λ t is. line_failed c.args.geometry.now c.args.site.now (last t) c.args.up.now c.insert.new.self c.args.line c.in-Err-Failed.ensures.counted.calls is_up c.insert.ensures.added c.in-Err-Failed.ensures.counted.few;
      };
    }
