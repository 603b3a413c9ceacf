-- How many bytes the text of a table has: those of its lists, and others that don't depend on them.
use Rattle.std.proofs.Common.{◌≡◌, ◌<◌, ◌+◌, ◌*◌, ◌^◌, ℕ, refl, ◌∙◌, List, [], ◌∷◌, ◌++◌, length, map, arith}
use Rattle.std.proofs.lemmas.List.{length-append}
use Rattle.std.specs.Prelude.{flat_map}
use Rattle.mdv_codec.proofs.Records.{length-record_text as length-recorded}
use Rattle.mdv_codec.specs.Record.{body_text, front_text}
use Rattle.mdv_codec.specs.Recorded.{pool_part_text, volume_text}
use Rattle.mdv_encoding.specs.Below.{Place, Lists, One, Two, Table}
use Rattle.mdv_encoding.specs.Text.{record_bytes, record_text}
use Rattle.mdv_fields.specs.Names.{slice_text}
use Rattle.mdv_fields.specs.Numbers.{u32_text}
use Rattle.mdv_fields.specs.Parts.{place_text}
use Rattle.mdv_fields.specs.Reading.{long_text, short_text}
use Rattle.mdv_fields.specs.Sets.{lists_text, pending_text, places_text, set_text}
use Rattle.mdv_whole.specs.Sides.{beside, pool_of, recorded_of, volume_of}

length-place_text : (p : Place) → length (place_text p) ≡ 12
unfolding slice_text u32_text
length-place_text p = refl

-- parts of one length
pub length-flat_map_of : {A : Type 0} (text : A → List ℕ) (size : ℕ) → ((a : A) → length (text a) ≡ size) → (xs : List A) → length (flat_map text xs) ≡ size * length xs
length-flat_map_of text size each [] = omega arith
length-flat_map_of text size each (x ∷ xs) = length-append (text x) (flat_map text xs) ∙ grind (arith, each x, length-flat_map_of text size each xs)

pub length-parts : (ps : List Place) → length (flat_map place_text ps) ≡ 12 * length ps
length-parts ps = length-flat_map_of place_text 12 length-place_text ps

length-places_text : (ps : List Place) → length (places_text ps) ≡ 1 + 12 * length ps
unfolding short_text
length-places_text ps = omega (arith, length-parts ps)

-- how many bytes lists have
abbrev pub lists_size : Lists → ℕ
lists_size (One ps) = 2 + 12 * length ps
lists_size (Two ps qs) = 3 + 12 * (length ps + length qs)

pub length-lists_text : (l : Lists) → length (lists_text l) ≡ lists_size l
length-lists_text (One ps) = omega (arith, length-places_text ps)
length-lists_text (Two ps qs) = omega (arith, length-append (places_text ps) (places_text qs), length-places_text ps, length-places_text qs)

-- how many all others have
abbrev pub rest_bytes : Table → ℕ
rest_bytes t =
    12
    + length (set_text t.plan.set ++ short_text pending_text t.plan.pending)
    + length (long_text pool_part_text (map (pool_of t.status.spares) t.plan.pools))
    + length (long_text volume_text (beside volume_of t.plan.volumes t.status.volumes))

pub length-record_text : (t : Table) → length (record_text t) ≡ length (lists_text t.plan.lists) + rest_bytes t
unfolding body_text front_text
length-record_text t =
    let lists = lists_text t.plan.lists in
    let set = set_text t.plan.set ++ short_text pending_text t.plan.pending in
    let pools = long_text pool_part_text (map (pool_of t.status.spares) t.plan.pools) in
    let volumes = long_text volume_text (beside volume_of t.plan.volumes t.status.volumes) in
    let whole : length (record_text t) ≡ 12 + length ((lists ++ set) ++ (pools ++ volumes)) = length-recorded (recorded_of t) in
    let parts : length ((lists ++ set) ++ (pools ++ volumes)) ≡ (length lists + length set) + (length pools + length volumes) = length-append (lists ++ set) (pools ++ volumes) ∙ (λ i. length-append lists set i + length-append pools volumes i) in
    whole ∙ omega (arith, parts)

-- a text that is no longer is counted exactly
pub bytes_are : (t : Table) → length (record_text t) < 2 ^ 32 → record_bytes t ≡ length (record_text t)
bytes_are t short = omega (arith, short)
