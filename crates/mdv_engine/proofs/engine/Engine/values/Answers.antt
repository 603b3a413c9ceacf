use Rattle.std.proofs.Common.{◌≡◌, ◌∙◌, None, Err, ℕ, length, take, ◌++◌, drop, sym, subst, ap, arith}
use Rattle.std.proofs.lemmas.List.{length-replicate}
use Rattle.std.proofs.Math.Seq.{take-append_seam}
use Rattle.mdv_shelf.specs.Made.{made_of}
use Rattle.mdv_shelf.specs.Shelves.{DriveFailures, MadeCalls}
use Rattle.mdv_engine.specs.Below.{HasBlocks, Read, pieces_in, values_reply}
use Rattle.mdv_engine.specs.Ends.{KeptOnBlocks, read_calls}
use Rattle.mdv_layout.specs.OneCopy.{layout_bounded}
use Rattle.mdv_engine.specs.Engine.{FailedBlocks, HasBlocksCause}
use Rattle.mdv_engine_law.specs.Refusals.{transfer_refusal}
use Rattle.mdv_shelf.proofs.Between.{between_of}
use Rattle.mdv_engine.proofs.Counting.{blocks_counted, in_most, read_fault}
use Rattle.mdv_engine.proofs.ReadJudging.{cause_is}
use Rattle.mdv_engine.proofs.engine.Engine.values.Goals as goal

pub returns-in-Err-clause-err : goal.returns-in-Err-clause-err
returns-in-Err-clause-err g c =
    let counted : length c.read_blocks.new.out ≡ c.args.count = c.read_blocks.auto.out ∙ ap length c.as_mut_slice.ensures.value ∙ (ap length c.in_ok-blocks.ensures.ok ∙ length-replicate c.args.count _) in
    let failures = DriveFailures g.S.Shelf c.args.shelf.now c.read_blocks.new.shelf in
    cause_is failures c.args.self.now.host c.args.self.now.state c.args.volume c.args.at c.args.count c.in-Err.refusal c.in_ok-_place.ensures.few c.in_ok-_place.ensures.free
    (subst (λ (n : ℕ). HasBlocksCause FailedBlocks failures c.args.self.now.host c.args.self.now.state c.args.volume c.args.at n c.in-Err.refusal) counted c.in-Err.ensures.err)

pub returns-in-Ok-new-clause-ok : goal.returns-in-Ok-new-clause-ok
returns-in-Ok-new-clause-ok g c =
    let counted : length c.read_blocks.new.out ≡ c.args.count = c.read_blocks.auto.out ∙ ap length c.as_mut_slice.ensures.value ∙ (ap length c.in_ok-blocks.ensures.ok ∙ length-replicate c.args.count _) in
    let whole : c.in_ok-blocks.blocks.len ≡ length c.read_blocks.new.out = sym (c.read_blocks.auto.out ∙ c.as_mut_slice.ensures.len) in
    let all : c.as_slice.result.now ≡ c.read_blocks.new.out =
    c.as_slice.ensures.value ∙ ap (λ (n : ℕ). take n (c.read_blocks.new.out ++ drop (length c.read_blocks.new.out) c.in_ok-blocks.blocks.items)) whole ∙ take-append_seam c.read_blocks.new.out _ in
    let read = c.in-Ok.ensures.ok in record {
      map = read.map;
      there = subst (λ (n : ℕ). HasBlocks c.args.self.now.host c.args.self.now.state c.args.volume c.args.at n read.map) counted read.there;
      allowed = subst (λ (n : ℕ). transfer_refusal c.args.self.now.host c.args.self.now.state.opened c.args.volume c.args.at n ≡ None) counted read.allowed;
      blocks = read.blocks;
      as_told = c.in-Ok-new.ensures ∙ ap (values_reply c.args.at) (all ∙ read.as_told);
      calm = read.calm;
      as_there = λ t start. (let there = read.as_there t start in (there.0 ∙ counted, there.1));
    }

pub new-requires : goal.new-requires
new-requires g c =
    let counted : length c.read_blocks.new.out ≡ c.args.count = c.read_blocks.auto.out ∙ ap length c.as_mut_slice.ensures.value ∙ (ap length c.in_ok-blocks.ensures.ok ∙ length-replicate c.args.count _) in
    let whole : c.in_ok-blocks.blocks.len ≡ length c.read_blocks.new.out = sym (c.read_blocks.auto.out ∙ c.as_mut_slice.ensures.len) in
    let all : c.as_slice.result.now ≡ c.read_blocks.new.out =
    c.as_slice.ensures.value ∙ ap (λ (n : ℕ). take n (c.read_blocks.new.out ++ drop (length c.read_blocks.new.out) c.in_ok-blocks.blocks.items)) whole ∙ take-append_seam c.read_blocks.new.out _ in
    let size = ap length all ∙ counted in
    let small = layout_bounded c.in_ok-_place._place c.in_ok-_place.ensures.within.well in
    let room = c.in_ok-_place.ensures.within.room in omega (arith, size, small, room)

pub returns-in-Err-clause-counted : goal.returns-in-Err-clause-counted
returns-in-Err-clause-counted g c =
    let counted : length c.read_blocks.new.out ≡ c.args.count = c.read_blocks.auto.out ∙ ap length c.as_mut_slice.ensures.value ∙ (ap length c.in_ok-blocks.ensures.ok ∙ length-replicate c.args.count _) in
    let opened = c.args.self.now.state.opened in
    blocks_counted g.S.Shelf _ _ c.args.self.now.host (Read c.args.volume c.args.at c.args.count) _ c.args.self.now.state c.args.volume c.args.at _ c.in-Err.refusal _ _ c.in-Err.ensures.err c.in-Err.ensures.counted.refused
    (λ is. read_fault g.S.Shelf _ _ c.args.self.now.host c.args.volume c.args.at c.args.count opened opened c.in_ok-_place.ensures.few
    (subst (λ (n : ℕ). (made_of g.S.Shelf c.args.shelf.now c.read_blocks.new.shelf).within 1 (pieces_in c.args.self.now.host opened c.args.volume c.args.at n) 0) counted (c.in-Err.ensures.counted.failed (ap Err is))))

-- the text of the blocks that were read had no room
pub returns-clause-counted : goal.returns-clause-counted
returns-clause-counted g c =
    let counted : length c.read_blocks.new.out ≡ c.args.count = c.read_blocks.auto.out ∙ ap length c.as_mut_slice.ensures.value ∙ (ap length c.in_ok-blocks.ensures.ok ∙ length-replicate c.args.count _) in
    let all = read_calls c.args.self.now c.args.volume c.args.at c.args.count in
    let took = subst (λ (n : ℕ). MadeCalls g.S.Shelf c.args.shelf.now c.read_blocks.new.shelf (read_calls c.args.self.now c.args.volume c.args.at n) 0) counted c.in-Ok.ensures.counted.done in (
      in_most g.S.Shelf _ _ c.args.self.now.host c.args.volume c.args.at c.args.count c.args.self.now.state.opened c.in_ok-_place.ensures.few
          (between_of g.S.Shelf.calls g.S.Shelf.written _ _ all 0 0 all 0 (omega arith) (omega arith) (omega arith) took),
      c.read_blocks.ensures.same,
    )

pub returns-in-Ok-new-clause-counted : goal.returns-in-Ok-new-clause-counted
returns-in-Ok-new-clause-counted g c =
    let counted : length c.read_blocks.new.out ≡ c.args.count = c.read_blocks.auto.out ∙ ap length c.as_mut_slice.ensures.value ∙ (ap length c.in_ok-blocks.ensures.ok ∙ length-replicate c.args.count _) in
    (subst (λ (n : ℕ). MadeCalls g.S.Shelf c.args.shelf.now c.read_blocks.new.shelf (read_calls c.args.self.now c.args.volume c.args.at n) 0) counted c.in-Ok.ensures.counted.done, c.in_ok-_place.ensures.few)

-- all calls were made on the blocks' drives
pub returns-in-Err-clause-kept : goal.returns-in-Err-clause-kept
returns-in-Err-clause-kept g c =
    let counted : length c.read_blocks.new.out ≡ c.args.count = c.read_blocks.auto.out ∙ ap length c.as_mut_slice.ensures.value ∙ (ap length c.in_ok-blocks.ensures.ok ∙ length-replicate c.args.count _) in
    subst (λ (n : ℕ). KeptOnBlocks g.S.Shelf c.args.shelf.now c.read_blocks.new.shelf c.args.self.now.host c.args.self.now.state c.args.volume c.args.at n) counted c.read_blocks.ensures.kept

pub returns-in-Ok-new-clause-kept : goal.returns-in-Ok-new-clause-kept
returns-in-Ok-new-clause-kept g c =
    let counted : length c.read_blocks.new.out ≡ c.args.count = c.read_blocks.auto.out ∙ ap length c.as_mut_slice.ensures.value ∙ (ap length c.in_ok-blocks.ensures.ok ∙ length-replicate c.args.count _) in
    subst (λ (n : ℕ). KeptOnBlocks g.S.Shelf c.args.shelf.now c.read_blocks.new.shelf c.args.self.now.host c.args.self.now.state c.args.volume c.args.at n) counted c.read_blocks.ensures.kept

pub returns-clause-kept : goal.returns-clause-kept
returns-clause-kept g c =
    let counted : length c.read_blocks.new.out ≡ c.args.count = c.read_blocks.auto.out ∙ ap length c.as_mut_slice.ensures.value ∙ (ap length c.in_ok-blocks.ensures.ok ∙ length-replicate c.args.count _) in
    subst (λ (n : ℕ). KeptOnBlocks g.S.Shelf c.args.shelf.now c.read_blocks.new.shelf c.args.self.now.host c.args.self.now.state c.args.volume c.args.at n) counted c.read_blocks.ensures.kept
