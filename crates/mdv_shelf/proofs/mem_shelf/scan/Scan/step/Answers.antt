use Rattle.std.proofs.Common.{sym, refl, subst, ◌+◌}
use Rattle.mdv_shelf.specs.Tale.{Then, last, values}
use Rattle.mdv_shelf.specs.MemHistory.{call_of, ScansTo}
use Rattle.mdv_shelf.specs.declared.mem_shelf.scan.Scan.{Scan}
use Rattle.mdv_shelf.proofs.MemScan.{scans_write, scans_sync, scans_other}
use Rattle.mdv_shelf.proofs.mem_shelf.scan.Scan.step.Goals as goal
use Rattle.mdv_shelf.proofs.mem_shelf.scan.Scan.step.Goals.{then-self-wanted, else-self-wanted}

pub returns-after-self-wanted-clause-scans : goal.returns-after-self-wanted-clause-scans
returns-after-self-wanted-clause-scans c = λ t before.
    let now = c.args.self.now in
    let u = Then t (call_of c.args.call.now) in
    let value = c.in-Some.value.now in
    let Stepped : Scan → Type 0 = λ s. ScansTo s.last (s.count + 1) s.found c.args.wanted (values u c.args.drive c.args.block) (last u c.args.drive c.args.block) in
    elim c.if-self-wanted.branch [
      | then-self-wanted w ↦ subst Stepped (sym w.self-is)
          (scans_write now.last now.count now.found c.args.wanted c.args.drive c.args.block (call_of c.args.call.now) t before value value
          c.in-Some.ensures.some.0 c.in-Some.ensures.some.1 (λ _. refl) (λ other. absurd (other w.if-self-wanted.true)))
      | else-self-wanted w ↦ subst Stepped (sym w.self-is)
          (scans_write now.last now.count now.found c.args.wanted c.args.drive c.args.block (call_of c.args.call.now) t before value now.found
          c.in-Some.ensures.some.0 c.in-Some.ensures.some.1 (λ same. absurd (w.if-self-wanted.false same)) (λ _. refl))
    ]

pub returns-then-syncs-clause-scans : goal.returns-then-syncs-clause-scans
returns-then-syncs-clause-scans c = λ t before.
    scans_sync c.args.self.now.last c.args.self.now.count c.args.self.now.found c.args.wanted c.args.drive c.args.block (call_of c.args.call.now) t before
    c.in_default.ensures.none (sym c.if-syncs.ensures)

pub returns-else-syncs-clause-scans : goal.returns-else-syncs-clause-scans
returns-else-syncs-clause-scans c = λ t before.
    scans_other c.args.self.now.last c.args.self.now.count c.args.self.now.found c.args.wanted c.args.drive c.args.block (call_of c.args.call.now) t before
    c.in_default.ensures.none (sym c.if-syncs.ensures)
