use Rattle.std.proofs.Common.{take, ◌++◌, List, ℕ, ap, ◌∙◌}
use Rattle.mdv_port.proofs.Cutting.{written}
use Rattle.mdv_port.proofs.line_buffer.LineBuffer.append.Goals as goal

pub returns : goal.returns
returns c =
    written 4096 c.self.inside.length c.min-count.result c.self.inside.bytes c.args.piece.now c.copy_from_slice.new.self c.self.told c.self.invariant c.min-count.ensures c.copy_from_slice.ensures.after
    ∙ ap (λ (l : List ℕ). take 4096 (l ++ c.args.piece.now)) c.self.view_is
