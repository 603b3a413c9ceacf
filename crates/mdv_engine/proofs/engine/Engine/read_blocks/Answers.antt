use Rattle.std.proofs.Common.{◌≡◌, ◌+◌, inr, None, length, sym, subst, ℕ, refl, ◌∙◌, arith}
use Rattle.mdv_base.specs.declared.refusal.Refusal.TheVariants.{IoFault}
use Rattle.mdv_layout.specs.Layouts.{layout_map}
use Rattle.mdv_layout.specs.OneCopy.{layout_one}
use Rattle.mdv_engine_law.specs.Refusals.{blocks_refusal, transfer_refusal}
use Rattle.mdv_shelf.specs.Made.{made_of}
use Rattle.mdv_shelf.specs.Shelves.{MadeCalls}
use Rattle.mdv_engine.specs.Below.{HasBlocks}
use Rattle.mdv_engine.proofs.Judged.{blocks_judged}
use Rattle.mdv_engine.proofs.ReadJudging.{few_is}
use Rattle.mdv_engine.proofs.Requested.{all_seen, failed_blocks, kept_there, pieces_are, read_stopped, read_then}
use Rattle.mdv_engine.proofs.engine.Engine.read_blocks.Goals as goal

pub read_blocks-requires-clause-well : goal.read_blocks-requires-clause-well
read_blocks-requires-clause-well g c = c.in_ok-device.ensures.within.well

pub read_blocks-requires-clause-on : goal.read_blocks-requires-clause-on
read_blocks-requires-clause-on g c = c.in_ok-device.ensures.within.lies (g.S.Shelf.sizes c.args.shelf.now) c.requires.ready

pub read_blocks-requires-clause-disjoint : goal.read_blocks-requires-clause-disjoint
read_blocks-requires-clause-disjoint g c = c.in_ok-device.ensures.within.apart

pub read_blocks-requires-clause-range : goal.read_blocks-requires-clause-range
read_blocks-requires-clause-range g c = record { some = c.requires.count.least; within = c.in_ok-device.ensures.within.room }

pub returns-in-Ok-clause-ok : goal.returns-in-Ok-clause-ok
returns-in-Ok-clause-ok g c =
    let device = c.in_ok-device.device in
    let counted = c.read_blocks.auto.out in
    let room = c.in_ok-device.ensures.within.room in record {
      map = layout_map device;
      there = subst (λ (n : ℕ). HasBlocks c.args.self.now.host c.args.self.now.state c.args.volume c.args.at n (layout_map device)) (sym counted) c.in_ok-device.ensures.ok;
      allowed = subst (λ (n : ℕ). transfer_refusal c.args.self.now.host c.args.self.now.state.opened c.args.volume c.args.at n ≡ None) (sym counted) (few_is c.args.self.now.host c.args.self.now.state.opened c.args.volume c.args.at (length c.args.out.now) c.requires.count.most ∙ c.in_ok-device.ensures.free);
      blocks = c.read_blocks.new.out;
      as_told = refl;
      calm = c.in-Ok.ensures.counted.calm;
      as_there = λ t start. (
        refl,
        all_seen (layout_map device) c.args.at c.read_blocks.new.out (layout_one device c.in_ok-device.ensures.within.well) (omega (arith, counted, room)) t
            (read_then (layout_map device) c.args.at c.read_blocks.new.out (g.S.Shelf.tale c.args.shelf.now) (g.S.Shelf.tale c.read_blocks.new.shelf) c.in-Ok.ensures.read c.read_blocks.ensures.same t start),
      );
    }

pub returns-in-Err-clause-err : goal.returns-in-Err-clause-err
returns-in-Err-clause-err g c =
    let device = c.in_ok-device.device in
    inr (
      failed_blocks c.args.self.now.host c.args.self.now.state c.args.volume c.args.at (length c.args.out.now) (layout_map device) c.in_ok-device.ensures.ok g.S.Shelf c.args.shelf.now c.read_blocks.new.shelf (length c.read_blocks.new.out) c.read_blocks.auto.out _ _ _
          (read_stopped g.S.Shelf c.args.shelf.now c.read_blocks.new.shelf (layout_map device) c.args.at (length c.args.out.now) {T = Unit {0}} _ c.in-Err.ensures.counted),
      subst (λ (n : ℕ). blocks_refusal c.args.self.now.host c.args.self.now.state.opened c.args.volume (c.args.at + n) ≡ None) (sym c.read_blocks.auto.out) c.in_ok-device.ensures.free,
      refl,
    )

pub returns-in-Ok-clause-counted : goal.returns-in-Ok-clause-counted
returns-in-Ok-clause-counted g c =
    let all = pieces_are c.args.self.now.host c.args.self.now.state c.args.volume c.args.at (length c.args.out.now) (layout_map c.in_ok-device.device) c.in_ok-device.ensures.ok (length c.read_blocks.new.out) c.read_blocks.auto.out in
    record { done = subst (λ (n : ℕ). MadeCalls g.S.Shelf c.args.shelf.now c.read_blocks.new.shelf n 0) (sym all) c.in-Ok.ensures.counted.done; failed = λ is. absurd (cc (is)); refused = tt }

pub returns-in-Err-clause-counted : goal.returns-in-Err-clause-counted
returns-in-Err-clause-counted g c =
    let device = c.in_ok-device.device in
    let all = pieces_are c.args.self.now.host c.args.self.now.state c.args.volume c.args.at (length c.args.out.now) (layout_map device) c.in_ok-device.ensures.ok (length c.read_blocks.new.out) c.read_blocks.auto.out in
    let stop = read_stopped g.S.Shelf c.args.shelf.now c.read_blocks.new.shelf (layout_map device) c.args.at (length c.args.out.now) {T = Unit {0}} _ c.in-Err.ensures.counted in record {
      done = tt;
      failed = λ is. subst (λ (n : ℕ). (made_of g.S.Shelf c.args.shelf.now c.read_blocks.new.shelf).within 1 n 0) (sym all) stop.made;
      refused = λ is. absurd (blocks_judged c.args.self.now.host c.args.self.now.state.opened c.args.volume _ IoFault is);
    }

pub returns-in-Ok-clause-kept : goal.returns-in-Ok-clause-kept
returns-in-Ok-clause-kept g c =
    kept_there c.args.self.now.host c.args.self.now.state c.args.volume c.args.at (length c.args.out.now) (layout_map c.in_ok-device.device) c.in_ok-device.ensures.ok g.S.Shelf c.args.shelf.now c.read_blocks.new.shelf (length c.read_blocks.new.out) c.read_blocks.auto.out c.read_blocks.ensures.kept

pub returns-in-Err-clause-kept : goal.returns-in-Err-clause-kept
returns-in-Err-clause-kept g c =
    kept_there c.args.self.now.host c.args.self.now.state c.args.volume c.args.at (length c.args.out.now) (layout_map c.in_ok-device.device) c.in_ok-device.ensures.ok g.S.Shelf c.args.shelf.now c.read_blocks.new.shelf (length c.read_blocks.new.out) c.read_blocks.auto.out c.read_blocks.ensures.kept
