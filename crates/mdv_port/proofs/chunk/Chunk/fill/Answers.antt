use Rattle.std.proofs.Common.{◌≡◌, sym, ap, ◌∙◌, List, ℕ, []}
use Rattle.mdv_port.specs.Reader.{to_come}
use Rattle.mdv_port.proofs.Chunks.{taken_comes, none_unread}
use Rattle.mdv_port.proofs.chunk.Chunk.fill.Goals as goal

pub returns-clause-same : goal.returns-clause-same
returns-clause-same g c =
    let left = g.I.Source.left c.args.source.now in
    let empty : [] ≡ c.args.self.now =
    sym (none_unread c.self.inside.start c.self.inside.end c.self.inside.bytes c.if-self.false) ∙ c.self.view_is in
    taken_comes c.in_ok-self-inside.field-0 c.take.new.out left (g.I.Source.left c.take.new.self) c.in_ok-self-inside.ensures.taken c.in_ok-self-inside.ensures.silent
    ∙ ap (λ (l : List ℕ). to_come l left) empty
