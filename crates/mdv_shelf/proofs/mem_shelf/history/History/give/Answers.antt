use Rattle.std.proofs.Common.{◌∙◌, ◌++◌, ◌∷◌, [], ℕ, List, ap, sym, length, arith, length-append}
use Rattle.mdv_shelf.specs.Tale.{Gave}
use Rattle.mdv_shelf.specs.declared.mem_shelf.disk.MemCall.{MemCall}
use Rattle.mdv_shelf.specs.declared.mem_shelf.disk.MemCall.TheVariants.{Give}
use Rattle.mdv_shelf.proofs.MemLaws.{after_give}
use Rattle.mdv_shelf.specs.MemShelf.{history_tale}
use Rattle.mdv_shelf.specs.declared.mem_shelf.counts.Counts.{Counts}
use Rattle.mdv_shelf.proofs.MemStory.{noted_more}
use Rattle.mdv_shelf.proofs.mem_shelf.history.History.give.Goals as goal

pub invariant_of-self-2 : goal.invariant_of-self-2
invariant_of-self-2 c =
    let now = c.args.self.now in
    let given = after_give c.args.self.now.disks.items c.args.self.now.calls.items c.push_reserved.new.self.items c.args.self.now.told_before c.args.self.now.told.items
    c.extend_from_slice.new.self.items (Give c.in_ok-copy.copy) c.args.piece.now c.args.self.now.before
    (c.push_reserved.ensures.items ∙ ap (λ (cs : List MemCall). cs ++ Give c.in_ok-copy.copy ∷ []) c.reserve.ensures.items)
    (ap (λ (l : List ℕ). Gave l (length l)) c.in_ok-copy.ensures.items) c.in_ok-extend_from_slice.ensures.items in
    record {
      few = now.few;
      before = omega (arith, now.before, ap length c.in_ok-extend_from_slice.ensures.items, length-append now.told.items c.args.piece.now);
      shows = given.shows now.shows;
      within = given.within now.within;
      tells = given.tells ∙ ap (λ (l : List ℕ). l ++ c.args.piece.now) now.tells ∙ sym c.in_ok-extend_from_slice.ensures.items;
    }

pub returns-clause-ok : goal.returns-clause-ok
returns-clause-ok c = (after_give c.args.self.now.disks.items c.args.self.now.calls.items c.push_reserved.new.self.items c.args.self.now.told_before c.args.self.now.told.items
    c.extend_from_slice.new.self.items (Give c.in_ok-copy.copy) c.args.piece.now c.args.self.now.before
    (c.push_reserved.ensures.items ∙ ap (λ (cs : List MemCall). cs ++ Give c.in_ok-copy.copy ∷ []) c.reserve.ensures.items)
    (ap (λ (l : List ℕ). Gave l (length l)) c.in_ok-copy.ensures.items) c.in_ok-extend_from_slice.ensures.items).tale

pub returns-clause-noted : goal.returns-clause-noted
returns-clause-noted c =
    noted_more (history_tale c.args.self.now) _ (Gave c.args.piece.now (length c.args.piece.now)) c.args.self.now.counts.items c.push_reserved-2.new.self.items c.in_ok-counts.counts _
    (returns-clause-ok c) (c.push_reserved-2.ensures.items ∙ ap (λ (l : List Counts). l ++ c.in_ok-counts.counts ∷ []) c.with_room.ensures.same) c.in_ok-counts.ensures.counts
