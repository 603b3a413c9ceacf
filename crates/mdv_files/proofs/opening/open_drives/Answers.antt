use Rattle.std.proofs.Common.{rules, List, ℕ, map, not, string_bytes, sym, subst, ap, ◌∙◌, arith}
use Rattle.mdv_name.specs.declared.drive_line.DriveLine.{DriveLine}
use Rattle.mdv_files.specs.Bench.{sizes_of}
use Rattle.mdv_files.specs.declared.image.Image.{Image}
use Rattle.mdv_files.specs.Opening.{HaveOwnFiles, IsFresh, foreign_of, is_foreign, is_own_by, lost_count}
use Rattle.mdv_files.proofs.Opened.{lost_push, own_push, lines_push}
use Rattle.mdv_files.proofs.opening.open_drives.Goals as goal

pub loop-line-preserved : goal.loop-line-preserved
loop-line-preserved c =
    let images = c.loop-line.images.items in
    let image = c.in_ok-image.image in
    let words : List (List ℕ) = map string_bytes c.args.words.now in
    let fresh : IsFresh images image = subst (λ (l : List Image). IsFresh l image) c.deref.ensures.value c.in_ok-image.ensures.own in
    record {
      few = search rules;
      sizes = ap sizes_of c.in_ok-push.ensures.items ∙ lines_push (λ (x : Image). x.blocks) (λ (l : DriveLine). l.blocks) images image c.args.geometry.now.drives c.loop-line.line-index c.line-item.result c.loop-line.invariant.sizes (search rules) (search rules) c.in_ok-image.ensures.blocks;
      own = subst HaveOwnFiles (sym c.in_ok-push.ensures.items) (own_push images image c.loop-line.invariant.own fresh);
      lost = omega (arith, c.in_ok-image.ensures.lost, c.loop-line.invariant.lost, lost_push images image, ap lost_count c.in_ok-push.ensures.items);
      foreign = ap foreign_of c.in_ok-push.ensures.items ∙ lines_push (λ (x : Image). is_foreign x.state) (λ (l : DriveLine). not (is_own_by words l.kind)) images image c.args.geometry.now.drives c.loop-line.line-index c.line-item.result c.loop-line.invariant.foreign (search rules) (search rules) c.in_ok-image.ensures.foreign;
    }
