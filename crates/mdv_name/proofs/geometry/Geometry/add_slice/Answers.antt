use Rattle.std.proofs.Common.{◌≡◌, ◌≤◌, ◌+◌, List, sym, ◌∙◌, ap, subst, get_or}
use Rattle.std.proofs.lemmas.Option.{get_or_from_slice_get}
use Rattle.mdv_name.specs.declared.drive_line.DriveLine.{DriveLine}
use Rattle.mdv_name.specs.declared.geometry.Geometry.{Geometry}
use Rattle.mdv_name.specs.declared.slice_lines.SliceLine.{SliceLine}
use Rattle.mdv_name.proofs.Fresh.{line_at, at_line, fresh_blocks}
use Rattle.mdv_name.proofs.geometry.Geometry.add_slice.Goals as goal

pub returns-in_default : goal.returns-in_default
returns-in_default c = λ h adds. c.in_default.ensures.none adds.0 (at_line _ adds.0 _ adds.1.line adds.1.place adds.1.named)

pub returns-then-not-ends_within : goal.returns-then-not-ends_within
returns-then-not-ends_within c = λ h adds.
    let read = c.index-as_slice-drive.result in
    let is : read ≡ get_or c.args.self.now.drives c.in-Some.drive.0 read = c.index-as_slice-drive.is ∙ ap (λ (l : List DriveLine). get_or l c.in-Some.drive.0 read) c.as_slice.ensures.value in
    let within = fresh_blocks c.args.self.now c.args.slice adds.0 c.in-Some.drive.0 read adds.1 c.in-Some.ensures.value.1 is in
    let yes = c.ends_within.ensures.1 (subst (λ (l : DriveLine). c.args.slice.start + c.args.slice.blocks ≤ l.blocks) c.index-as_slice-drive.is within) in
    let refused = c.if-not-ends_within.true in
    cc

pub returns-in-Some-find : goal.returns-in-Some-find
returns-in-Some-find c = λ h adds. adds.1.fresh c.in-Some-find.field-0 c.in-Some-find.ensures.value

pub returns : goal.returns
returns c =
    let drives = c.args.self.now.drives in
    let n = c.in-Some.drive.0 in
    let read = c.index-as_slice-drive.result in
    let here = line_at drives n c.args.slice.name.drive c.in-Some.ensures.value.0 in
    let is : read ≡ here.line = c.index-as_slice-drive.is ∙ ap (λ (l : List DriveLine). get_or l n read) c.as_slice.ensures.value ∙ get_or_from_slice_get drives n here.line read here.place in
    let within : c.args.slice.start + c.args.slice.blocks ≤ read.blocks = subst (λ (l : DriveLine). c.args.slice.start + c.args.slice.blocks ≤ l.blocks) (sym c.index-as_slice-drive.is) (c.ends_within.ensures.0 (c.if-not-ends_within.false)) in (
      n,
      record {
        line = here.line;
        place = here.place;
        named = here.named;
        within = subst (λ (l : DriveLine). c.args.slice.start + c.args.slice.blocks ≤ l.blocks) is within;
        fresh = c.in_default-find.ensures.none;
      },
      ap (λ (l : List SliceLine). let g : Geometry = record { hosts = c.args.self.now.hosts; drives = drives; slices = l } in g) c.in_ok-push.ensures.ok,
    )
