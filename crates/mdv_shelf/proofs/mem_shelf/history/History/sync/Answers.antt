use Rattle.std.proofs.Common.{◌≡◌, ◌∙◌, ◌++◌, ◌∷◌, [], List, ap}
use Rattle.mdv_shelf.specs.Tale.{Synced}
use Rattle.mdv_shelf.specs.MemHistory.{latest_blocks}
use Rattle.mdv_shelf.specs.declared.mem_shelf.disk.MemCall.{MemCall}
use Rattle.mdv_shelf.specs.declared.mem_shelf.disk.MemCall.TheVariants.{Sync}
use Rattle.mdv_shelf.proofs.MemLaws.{tale_from-push, shows_synced, within_synced, told_synced}
use Rattle.mdv_shelf.specs.MemShelf.{history_tale}
use Rattle.mdv_shelf.specs.declared.mem_shelf.counts.Counts.{Counts}
use Rattle.mdv_shelf.proofs.MemStory.{noted_more}
use Rattle.mdv_shelf.proofs.mem_shelf.history.History.sync.Goals as goal

pub invariant_of-self-2 : goal.invariant_of-self-2
invariant_of-self-2 c =
    let now = c.args.self.now in
    let pushed : c.push_reserved.new.self.items ≡ now.calls.items ++ Sync c.args.drive ∷ [] = c.push_reserved.ensures.items ∙ ap (λ (cs : List MemCall). cs ++ Sync c.args.drive ∷ []) c.reserve.ensures.items in
    let is = tale_from-push now.disks.items now.calls.items c.push_reserved.new.self.items (Sync c.args.drive) now.told_before now.told.items pushed in
    let drives = latest_blocks now.disks.items in
    record {
      few = now.few;
      before = now.before;
      shows = shows_synced drives _ _ c.args.drive is now.shows;
      within = within_synced drives _ _ c.args.drive is now.shows now.within;
      tells = told_synced drives _ _ c.args.drive is now.shows ∙ now.tells;
    }

pub returns-clause-ok : goal.returns-clause-ok
returns-clause-ok c =
    let now = c.args.self.now in
    tale_from-push now.disks.items now.calls.items c.push_reserved.new.self.items (Sync c.args.drive) now.told_before now.told.items
    (c.push_reserved.ensures.items ∙ ap (λ (cs : List MemCall). cs ++ Sync c.args.drive ∷ []) c.reserve.ensures.items)

pub returns-clause-noted : goal.returns-clause-noted
returns-clause-noted c =
    noted_more (history_tale c.args.self.now) _ (Synced c.args.drive) c.args.self.now.counts.items c.push_reserved-2.new.self.items c.in_ok-counts.counts _
    (returns-clause-ok c) (c.push_reserved-2.ensures.items ∙ ap (λ (l : List Counts). l ++ c.in_ok-counts.counts ∷ []) c.with_room.ensures.same) c.in_ok-counts.ensures.counts
