use Rattle.std.proofs.Common.{◌∙◌, sym}
use Rattle.std.proofs.lemmas.Result.{on_ok_weaker}
use Rattle.mdv_tab.specs.Making.{users_at}
use Rattle.mdv_tab.proofs.Makings.{queues_all, users_here}
use Rattle.mdv_tab.proofs.making.pass.Goals as goal

pub returns-clause-queue : goal.returns-clause-queue
returns-clause-queue c =
    let is = c.as_slice.ensures.value ∙ sym (users_here c.args.graph.now c.args.name c.index.result.now c.requires.within c.index.ensures) in
    on_ok_weaker c.add_all.result (queues_all (users_at c.args.graph.now c.args.name) c.as_slice.result.now _ c.args.queue.now c.add_all.new.queue is) c.add_all.ensures
