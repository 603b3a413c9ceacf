use Rattle.std.proofs.Common.{inl, inr, Ok}
use Rattle.mdv_survey.specs.declared.body.ReadFault.{ReadFault}
use Rattle.mdv_survey.proofs.Counting.{few_held}
use Rattle.mdv_survey.proofs.Ending.{read_on_more}
use Rattle.mdv_survey.proofs.Reading.{both_read, one_read, one_slots, two_slots}
use Rattle.mdv_survey.proofs.slots.slots_at.Goals as goal
use Rattle.mdv_survey.proofs.slots.slots_at.Goals.{in-Other, in-Nothing}

pub returns-clause-reads : goal.returns-clause-reads
returns-clause-reads g c = elim c.match-branch-2.branch [
  | in-Other w ↦ rw (w.shelf-is, w.result-is)
      (one_slots g.S.Shelf c.args.geometry.now c.args.at c.args.head.now c.spare_slot-spare.result c.gate_of_slot-gate.result c.gate_of_slot-gate.ensures
      c.args.shelf.now c.read_slot.new.shelf c.in_ok-read_slot.field-0 w.in-Other.is c.in_ok-read_slot.ensures.reads)
  | in-Nothing w ↦ rw (w.shelf-is, w.result-is)
      (two_slots g.S.Shelf c.args.geometry.now c.args.at c.args.head.now c.spare_slot-spare.result c.gate_of_slot-gate.result c.gate_of_slot-gate.ensures
      c.args.shelf.now c.read_slot.new.shelf w.newest_slot.new.shelf c.in_ok-read_slot.field-0 (λ other. elim w.in-Nothing.is [ inl nothing ↦ absurd (cc (nothing, other)) | inr kept ↦ absurd (cc (kept.2, other)) ])
      c.in_ok-read_slot.ensures.reads w.newest_slot.result (rw w.other_slot.ensures at w.newest_slot.ensures.reads))
]

pub returns-clause-counted : goal.returns-clause-counted
returns-clause-counted g c = elim c.match-branch-2.branch [
  | in-Other w ↦ rw (w.shelf-is, w.result-is)
      (one_read g.S.Shelf c.args.geometry.now c.args.at c.args.head.now c.spare_slot-spare.result c.gate_of_slot-gate.result c.gate_of_slot-gate.ensures c.spare_slot-spare.ensures.spare c.spare_slot-spare.ensures.tie
      ReadFault c.args.shelf.now c.read_slot.new.shelf c.in_ok-read_slot.field-0 w.in-Other.is c.in_ok-read_slot.ensures.counted c.in_ok-read_slot.ensures.reads)
  | in-Nothing w ↦ rw (w.shelf-is, w.result-is)
      (both_read g.S.Shelf c.args.geometry.now c.args.at c.args.head.now c.spare_slot-spare.result c.gate_of_slot-gate.result c.gate_of_slot-gate.ensures c.spare_slot-spare.ensures.spare c.spare_slot-spare.ensures.tie
      c.args.shelf.now c.read_slot.new.shelf w.newest_slot.new.shelf c.in_ok-read_slot.field-0 (λ other. elim w.in-Nothing.is [ inl nothing ↦ absurd (cc (nothing, other)) | inr kept ↦ absurd (cc (kept.2, other)) ])
      c.in_ok-read_slot.ensures.counted c.in_ok-read_slot.ensures.reads w.newest_slot.result (rw w.other_slot.ensures at w.newest_slot.ensures.counted))
]

pub returns-clause-kept : goal.returns-clause-kept
returns-clause-kept g c = elim c.match-branch-2.branch [
  | in-Other w ↦ rw w.shelf-is c.read_slot.ensures.kept
  | in-Nothing w ↦ rw w.shelf-is (let few = few_held g.S.Shelf {E = ReadFault} c.args.shelf.now c.read_slot.new.shelf c.args.at.place.blocks c.gate_of_slot-gate.result (Ok c.in_ok-read_slot.field-0) c.in_ok-read_slot.ensures.counted in
      read_on_more g.S.Shelf c.args.shelf.now c.read_slot.new.shelf w.newest_slot.new.shelf c.args.at.drive.0 few.0 few.2 c.in_ok-read_slot.ensures.answer.read.calm c.read_slot.ensures.kept w.newest_slot.ensures.kept)
]
