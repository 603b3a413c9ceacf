use Rattle.std.proofs.Common.{◌∙◌, ◌++◌, ◌∷◌, [], ℕ, List, ap, length, arith, length-set}
use Rattle.mdv_shelf.specs.Tale.{Wrote}
use Rattle.mdv_shelf.specs.declared.mem_shelf.disk.MemCall.{MemCall}
use Rattle.mdv_shelf.specs.declared.mem_shelf.disk.MemCall.TheVariants.{Write}
use Rattle.mdv_shelf.proofs.MemLaws.{range_fits, after_write}
use Rattle.mdv_shelf.specs.MemShelf.{history_tale}
use Rattle.mdv_shelf.specs.declared.mem_shelf.counts.Counts.{Counts}
use Rattle.mdv_shelf.proofs.MemStory.{noted_more}
use Rattle.mdv_shelf.proofs.mem_shelf.history.History.write.Goals as goal

pub put-requires : goal.put-requires
put-requires c = range_fits c.args.self.now.disks.items c.args.drive c.args.at (length c.args.from.now) c.requires c.index_mut.result.now c.index_mut.ensures.value

pub invariant_of-self-2 : goal.invariant_of-self-2
invariant_of-self-2 c =
    let now = c.args.self.now in
    let written = after_write c.args.self.now.disks.items c.args.self.now.calls.items c.push_reserved.new.self.items c.args.self.now.told_before c.args.self.now.told.items
    c.args.drive c.args.at (Write c.args.drive c.args.at c.in_ok-blocks.blocks) c.args.from.now c.index_mut.result.now c.put.new.self c.requires
    (c.push_reserved.ensures.items ∙ ap (λ (cs : List MemCall). cs ++ Write c.args.drive c.args.at c.in_ok-blocks.blocks ∷ []) c.reserve.ensures.items)
    (ap (λ (l : List (List ℕ)). Wrote c.args.drive c.args.at l) c.in_ok-blocks.ensures.items) c.index_mut.ensures.value c.put.ensures.start c.put.ensures.latest in
    record {
      few = omega (arith, now.few, length-set now.disks.items c.args.drive c.put.new.self);
      before = now.before;
      shows = written.shows now.shows;
      within = written.within now.shows now.within;
      tells = written.tells now.shows ∙ now.tells;
    }

pub returns-clause-ok : goal.returns-clause-ok
returns-clause-ok c = (after_write c.args.self.now.disks.items c.args.self.now.calls.items c.push_reserved.new.self.items c.args.self.now.told_before c.args.self.now.told.items
    c.args.drive c.args.at (Write c.args.drive c.args.at c.in_ok-blocks.blocks) c.args.from.now c.index_mut.result.now c.put.new.self c.requires
    (c.push_reserved.ensures.items ∙ ap (λ (cs : List MemCall). cs ++ Write c.args.drive c.args.at c.in_ok-blocks.blocks ∷ []) c.reserve.ensures.items)
    (ap (λ (l : List (List ℕ)). Wrote c.args.drive c.args.at l) c.in_ok-blocks.ensures.items) c.index_mut.ensures.value c.put.ensures.start c.put.ensures.latest).tale

pub returns-clause-sizes : goal.returns-clause-sizes
returns-clause-sizes c = (after_write c.args.self.now.disks.items c.args.self.now.calls.items c.push_reserved.new.self.items c.args.self.now.told_before c.args.self.now.told.items
    c.args.drive c.args.at (Write c.args.drive c.args.at c.in_ok-blocks.blocks) c.args.from.now c.index_mut.result.now c.put.new.self c.requires
    (c.push_reserved.ensures.items ∙ ap (λ (cs : List MemCall). cs ++ Write c.args.drive c.args.at c.in_ok-blocks.blocks ∷ []) c.reserve.ensures.items)
    (ap (λ (l : List (List ℕ)). Wrote c.args.drive c.args.at l) c.in_ok-blocks.ensures.items) c.index_mut.ensures.value c.put.ensures.start c.put.ensures.latest).sizes

pub returns-clause-noted : goal.returns-clause-noted
returns-clause-noted c =
    noted_more (history_tale c.args.self.now) _ (Wrote c.args.drive c.args.at c.args.from.now) c.args.self.now.counts.items c.push_reserved-2.new.self.items c.in_ok-counts.counts _
    (returns-clause-ok c) (c.push_reserved-2.ensures.items ∙ ap (λ (l : List Counts). l ++ c.in_ok-counts.counts ∷ []) c.with_room.ensures.same) c.in_ok-counts.ensures.counts
