-- Which bytes are read as a table, and that there is one at most.
use Rattle.std.proofs.Common.{◌≡◌, ◌≤◌, ◌⊎◌, ℕ, Bool, true, false, refl, sym, ◌∙◌, ap, subst, List, length, Option, None, Some, Result, Ok, Err, inl, inr, arith}
use Rattle.std.proofs.lemmas.Bool.{and_parts, and_from, le-leb, leb-true}
use Rattle.std.proofs.lemmas.Slice.Eq.{bytes_eq-Decides}
use Rattle.std.specs.Prelude.{◌↔◌, ◌&&◌, if◌then◌else◌, nat_le}
use Rattle.std.specs.Str.{bytes_eq}
use Rattle.mdv_config.proofs.Testing.{is_of_geometry-true}
use Rattle.mdv_encoding.specs.Below.{Geometry, Table, RecordError, NotARecord, Memory, IsSound, IsOfGeometry, is_of_geometry, places_of}
use Rattle.mdv_encoding.specs.Parsing.{table_from, read_of, IsTextOf}
use Rattle.mdv_encoding.specs.Record.{IsDecoded, IsRecordOf}
use Rattle.mdv_encoding.specs.Room.{least_slot_bytes}
use Rattle.mdv_encoding.specs.Text.{record_text}
use Rattle.mdv_encoding.proofs.Fitting.{fits_table, table_read}
use Rattle.mdv_encoding.proofs.Rooms.{room_most}
use Rattle.mdv_whole.specs.Text.{IsTable, IsDecoded as IsWhole}

some_where : {A : Type 0} (b : Bool) (x y : A) → (if b then Some x else None) ≡ Some y → (b ≡ true) × (x ≡ y)
some_where true x y is = (refl, cc (is))
some_where false x y is = cc (is)

module _ (g : Geometry) (sound : IsSound g) where
  pub one_table : (t u : Table) → IsOfGeometry g t → IsOfGeometry g u → record_text t ≡ record_text u → t ≡ u
  one_table t u is also same = sym (table_read g sound t is) ∙ ap table_from same ∙ table_read g sound u also

  -- what is decoded of a table's text
  pub decoded_again : (t : Table) (answer : Result Table RecordError) → IsRecordOf g (record_text t) t → IsDecoded g (record_text t) answer → (answer ≡ Ok t) ⊎ (answer ≡ Err Memory)
  decoded_again t (Ok u) is decoded = inl (ap Ok (sym (one_table t u is.of_geometry decoded.table.of_geometry decoded.table.text)))
  decoded_again t (Err NotARecord) is decoded = absurd (decoded.none refl t is)
  decoded_again t (Err Memory) is decoded = inr refl

-- all of a table is in its text, where that is short
module _ (g : Geometry) (sound : IsSound g) where
  is_whole : {bytes : List ℕ} (t : Table) → IsRecordOf g bytes t → IsTable t
  is_whole t is = fits_table g sound t is.of_geometry (omega (arith, is.in_room, room_most (places_of t.plan.lists)))

  -- where no text is read, or a table that isn't of the geometry or too long for its places
  pub none_decoded : {bytes : List ℕ} (answer : Result Table RecordError) (e : RecordError) → answer ≡ Err e → IsWhole bytes (Err e) → IsDecoded g bytes answer
  none_decoded answer e is whole = rw is (record {
    table = tt;
    none = λ told t has. let memory : e ≡ Memory = whole.spelled t (is_whole t has) has.text in cc (told, memory);
  })

  pub not_a_record : {bytes : List ℕ} (u : Table) → (IsRecordOf g bytes u → ⊥) → IsWhole bytes (Ok u) → IsDecoded g bytes (Err NotARecord)
  not_a_record {bytes} u other whole = record {
    table = tt;
    none = λ told t has. other (subst (IsRecordOf g bytes) (sym (whole.spelled t (is_whole t has) has.text)) has);
  }

  pub too_long : {bytes : List ℕ} (u : Table) → (length bytes ≤ least_slot_bytes (places_of u.plan.lists) → ⊥) → IsWhole bytes (Ok u) → IsDecoded g bytes (Err NotARecord)
  too_long u long whole = not_a_record u (λ is. long (subst (λ (text : List ℕ). length text ≤ least_slot_bytes (places_of u.plan.lists)) (sym is.text) is.in_room)) whole

  -- where a table of the geometry is read, and no longer than that
  pub is_record : {bytes : List ℕ} (u : Table) → IsOfGeometry g u → length bytes ≤ least_slot_bytes (places_of u.plan.lists) → IsWhole bytes (Ok u) → IsRecordOf g bytes u
  is_record u of_geometry short whole = record {
    of_geometry = of_geometry;
    text = whole.read.1;
    in_room = subst (λ (text : List ℕ). length text ≤ least_slot_bytes (places_of u.plan.lists)) whole.read.1 short;
  }

module _ (g : Geometry) (sound : IsSound g) (bytes : List ℕ) where
  has_room : Table → Bool
  has_room t = nat_le (length (record_text t)) (least_slot_bytes (places_of t.plan.lists))

  is_text : Table → Bool
  is_text t = bytes_eq (record_text t) bytes && (is_of_geometry g t && has_room t)

  text_of : (t : Table) → is_text t ≡ true ↔ IsRecordOf g bytes t
  unfolding is_text has_room
  text_of t =
      let same = bytes_eq-Decides (record_text t) bytes in
      let of = is_of_geometry-true g sound t in
      let size = length (record_text t) in
      let room = least_slot_bytes (places_of t.plan.lists) in (
        λ is.
            let parts = and_parts (bytes_eq (record_text t) bytes) (is_of_geometry g t && nat_le size room) is in
            let others = and_parts (is_of_geometry g t) (nat_le size room) parts.1 in
            record { of_geometry = of.0 others.0; text = sym (same.0 parts.0); in_room = leb-true size room others.1 },
        λ has. and_from (bytes_eq (record_text t) bytes) (is_of_geometry g t && nat_le size room) (same.1 (sym has.text)) (and_from (is_of_geometry g t) (nat_le size room) (of.1 has.of_geometry) (le-leb size room has.in_room)),
      )

  pub is_read : (t : Table) → IsTextOf g bytes t ↔ IsRecordOf g bytes t
  unfolding read_of is_text has_room
  is_read t = (
    λ is.
        let table = table_from bytes in
        let here = some_where (is_text table) table t is in
        subst (λ (u : Table). IsRecordOf g bytes u) here.1 ((text_of table).0 here.0),
    λ has.
        let table : table_from bytes ≡ t = ap table_from has.text ∙ table_read g sound t has.of_geometry in
        ap (λ (u : Table). if is_text u then Some u else None) table ∙ ap (λ (b : Bool). if b then Some t else None) ((text_of t).1 has),
  )

  pub none_of_decoded : (answer : Result Table RecordError) → IsDecoded g bytes answer → answer ≡ Err NotARecord → read_of g bytes ≡ None
  none_of_decoded answer decoded told = none (read_of g bytes) refl
    where
      none : (o : Option Table) → read_of g bytes ≡ o → read_of g bytes ≡ None
      none None is = is
      none (Some t) is = absurd (decoded.none told t ((is_read t).0 is))
