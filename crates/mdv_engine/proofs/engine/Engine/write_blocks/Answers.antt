use Rattle.std.proofs.Common.{◌∙◌, inr, length, sym, subst, ap, ℕ, refl, Result, IfErr}
use Rattle.mdv_base.specs.declared.refusal.Refusal.TheVariants.{IoFault}
use Rattle.mdv_layout.specs.Layouts.{layout_map}
use Rattle.mdv_shelf.specs.Made.{made_of}
use Rattle.mdv_shelf.specs.Shelves.{DriveFailures, MadeCalls}
use Rattle.mdv_engine_law.proofs.Ready.{own_drives_lie}
use Rattle.mdv_engine.specs.Below.{Drives, HasUnsettled, Refusal}
use Rattle.mdv_engine.specs.Ends.{AreBlocksCounted, AreWritten, ArePutting, write_calls}
use Rattle.mdv_engine.specs.Engine.{FailedWrite, HasBlocksCause}
use Rattle.mdv_engine.specs.declared.engine.Engine.{Engine}
use Rattle.mdv_engine.proofs.Judged.{blocks_judged}
use Rattle.mdv_engine.proofs.Requested.{failed_write, kept_there, write_are}
use Rattle.mdv_engine.proofs.engine.Engine.write_blocks.Goals as goal
use Rattle.mdv_engine.proofs.engine.Engine.write_blocks.Goals.{in-Err, in-Ok}

pub write_blocks-requires-clause-well : goal.write_blocks-requires-clause-well
write_blocks-requires-clause-well g c = c.in_ok-device.ensures.within.well

pub write_blocks-requires-clause-on : goal.write_blocks-requires-clause-on
write_blocks-requires-clause-on g c = c.in_ok-device.ensures.within.lies (g.S.Shelf.sizes c.args.shelf.now) c.requires.ready

pub write_blocks-requires-clause-disjoint : goal.write_blocks-requires-clause-disjoint
write_blocks-requires-clause-disjoint g c = c.in_ok-device.ensures.within.apart

pub write_blocks-requires-clause-range : goal.write_blocks-requires-clause-range
write_blocks-requires-clause-range g c = record { some = c.requires.count.least; within = c.in_ok-device.ensures.within.room }

pub write_blocks-requires-clause-few : goal.write_blocks-requires-clause-few
write_blocks-requires-clause-few g c = (own_drives_lie c.args.self.now.host (g.S.Shelf.sizes c.args.shelf.now) c.requires.ready).few

pub returns-clause-put : goal.returns-clause-put
returns-clause-put g c =
    let left : Drives → Engine = λ d. record { host = c.self.inside.0.0; state = record { opened = c.self.inside.0.1.0.database; up = c.self.inside.0.1.0.up; unsteady = d; clean = c.self.inside.0.1.0.clean; begun = c.self.inside.0.1.0.begun; entries = c.self.inside.0.1.0.entries.items } } in
    let written = λ (r : Result (Unit {0}) Refusal). AreWritten g.S.Shelf c.args.shelf.now c.write_blocks.new.shelf c.args.self.now c.args.volume c.args.at c.args.from.now r (left c.write_blocks.new.failed) in
    let putting : ArePutting g.S.Shelf c.args.shelf.now c.write_blocks.new.shelf c.args.self.now c.args.volume c.args.at c.args.from.now =
    record { map = layout_map c.in_ok-device.device; there = c.in_ok-device.ensures.ok; allowed = c.in_ok-device.ensures.free; moments = c.write_blocks.ensures.moments } in
    elim c.match-write_blocks.branch [
      | in-Ok w ↦ subst written (sym w.result-is) (record {
        putting = putting;
        calm = w.in-Ok.ensures.told.0.1;
        settled = w.in-Ok.ensures.written;
        same = ap left w.in-Ok.ensures.told.0.0 ∙ c.self.view_is;
      })
      | in-Err w ↦ let torn = w.in-Err.ensures.told.0 in subst written (sym w.result-is) (record {
        putting = putting;
        failing = torn.failing;
        have = torn.have;
        others = torn.others;
        host = ap (λ (e : Engine). e.host) c.self.view_is;
        unsettled = subst (λ (e : Engine). HasUnsettled torn.failing e.state (left c.write_blocks.new.failed).state) c.self.view_is (record { beside = refl; each = torn.told });
      })
    ]

pub returns-clause-err : goal.returns-clause-err
returns-clause-err g c =
    let causes = λ (r : Result (Unit {0}) Refusal). IfErr r (HasBlocksCause FailedWrite (DriveFailures g.S.Shelf c.args.shelf.now c.write_blocks.new.shelf) c.args.self.now.host c.args.self.now.state c.args.volume c.args.at (length c.args.from.now)) in
    elim c.match-write_blocks.branch [
      | in-Ok w ↦ subst causes (sym w.result-is) tt
      | in-Err w ↦ let torn = w.in-Err.ensures.told.0 in subst causes (sym w.result-is) (inr (
        failed_write c.args.self.now.host c.args.self.now.state c.args.volume c.args.at (length c.args.from.now) (layout_map c.in_ok-device.device) c.in_ok-device.ensures.ok g.S.Shelf c.args.shelf.now c.write_blocks.new.shelf torn.failing torn.have,
        c.in_ok-device.ensures.free,
        refl,
      ))
    ]

pub returns-clause-counted : goal.returns-clause-counted
returns-clause-counted g c =
    let counts = λ (r : Result (Unit {0}) Refusal). AreBlocksCounted g.S.Shelf c.args.shelf.now c.write_blocks.new.shelf (write_calls c.args.self.now c.args.volume c.args.at (length c.args.from.now)) (length c.args.from.now) c.args.self.now c.args.volume c.args.at (length c.args.from.now) r in
    let all = write_are c.args.self.now.host c.args.self.now.state c.args.volume c.args.at (length c.args.from.now) (layout_map c.in_ok-device.device) c.in_ok-device.ensures.ok in
    elim c.match-write_blocks.branch [
      | in-Ok w ↦ subst counts (sym w.result-is)
          (record { done = subst (λ (n : ℕ). MadeCalls g.S.Shelf c.args.shelf.now c.write_blocks.new.shelf n (length c.args.from.now)) (sym all) w.in-Ok.ensures.counted.done; failed = λ is. absurd (cc (is)); refused = tt })
      | in-Err w ↦ subst counts (sym w.result-is) (record {
        done = tt;
        failed = λ is. subst (λ (n : ℕ). (made_of g.S.Shelf c.args.shelf.now c.write_blocks.new.shelf).within 1 n (length c.args.from.now)) (sym all) w.in-Err.ensures.counted.failed;
        refused = λ is. absurd (blocks_judged c.args.self.now.host c.args.self.now.state.opened c.args.volume _ IoFault is);
      })
    ]

pub returns-clause-kept : goal.returns-clause-kept
returns-clause-kept g c =
    kept_there c.args.self.now.host c.args.self.now.state c.args.volume c.args.at (length c.args.from.now) (layout_map c.in_ok-device.device) c.in_ok-device.ensures.ok g.S.Shelf c.args.shelf.now c.write_blocks.new.shelf (length c.args.from.now) refl c.write_blocks.ensures.kept
