-- Once a change of places is over, the text of the table is no longer than before, and has to fit fewer places.
use Rattle.std.proofs.Common.{◌≤◌, ℕ, refl, List, length, arith}
use Rattle.mdv_config.proofs.Settled.{settled_of}
use Rattle.mdv_encoding.specs.Below.{Geometry, Lists, One, Two, Table, last_of, settled}
use Rattle.mdv_encoding.specs.Record.{IsRecordOf}
use Rattle.mdv_encoding.specs.Text.{record_text}
use Rattle.mdv_encoding.proofs.Lengths.{length-lists_text, length-record_text}
use Rattle.mdv_encoding.proofs.Rooms.{last_room}
use Rattle.mdv_fields.specs.Sets.{lists_text}

fewer_lists : (l : Lists) → length (lists_text (One (last_of l))) ≤ length (lists_text l)
fewer_lists (One places) = omega arith
fewer_lists (Two old new) = omega (arith, length-lists_text (Two old new), length-lists_text (One new))

pub settled_record : (g : Geometry) (bytes : List ℕ) (t : Table) → IsRecordOf g bytes t → IsRecordOf g (record_text (settled t)) (settled t)
settled_record g bytes t is = record {
  of_geometry = settled_of g t is.of_geometry;
  text = refl;
  in_room = omega (arith, length-record_text t, length-record_text (settled t), fewer_lists t.plan.lists, last_room t.plan.lists, is.in_room);
}
