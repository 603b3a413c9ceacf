-- A slice has a first master in an image, or it has none: the block tells which.
use Rattle.std.proofs.Common.{◌≡◌, ◌⊎◌, inl, inr, ℕ, ◌+◌, ◌-◌, ◌<◌, ◌≤◌, ◌^◌, ◌==◌, Bool, true, false, if◌then◌else◌, List, ◌∷◌, ◌++◌, length, take, drop, replicate, slice_index, Option, Some, None, refl, sym, ◌∙◌, ap, subst, append_assoc, arith}
use Rattle.std.proofs.lemmas.Bool.{cases_eq, cases_lt, false≢true}
use Rattle.std.proofs.lemmas.List.{take_at}
use Rattle.std.proofs.lemmas.Slice.Eq.{bytes_eq-Decides}
use Rattle.std.proofs.Math.Seq.{drop-append_seam}
use Rattle.std.specs.List.{list_all}
use Rattle.std.specs.Str.{bytes_eq}
use Rattle.byteorder.specs.Endian.{big_bytes, big_number}
use Rattle.byteorder.specs.Numbers.{big_number-reads_back}
use Rattle.mdv_base.specs.Bytes.{padded_to}
use Rattle.mdv_base.specs.Name.{IsName, begins_with_letter, is_name_byte}
use Rattle.mdv_base.specs.declared.drive.SliceName.{SliceName}
use Rattle.mdv_base.specs.declared.name.Key.{Key}
use Rattle.mdv_base.specs.declared.name.Key.TheVariants.{Local, Set}
use Rattle.mdv_name.specs.declared.slice_lines.SliceLine.{SliceLine}
use Rattle.mdv_replica.specs.Forms.{IsMaster, block_of, key_text, master_text, name_of_key, slice_bytes}
use Rattle.mdv_replica.specs.Replica.{LiesAt}
use Rattle.mdv_replica.specs.Seen.{IsMasterAt}
use Rattle.mdv_replica.specs.declared.forms.Master.{Master}
use Rattle.mdv_replica.specs.declared.replica.PlaceAt.{PlaceAt}
use Rattle.mdv_replica.proofs.Pages.{length-padded_to}
use Rattle.mdv_replica.proofs.Parts.{master_parts, tail}
use Rattle.mdv_shelf.specs.Everywhere.{Image}
use Rattle.mdv_shown.specs.Site.{place_on, size_on}
use Rattle.mdv_shown.specs.declared.site.Site.{Site}
use Rattle.mdv_shown.specs.Wipes.{FirstIs}

-- The master whose fields stand in these bytes.
slice_from : List ℕ → SliceName
slice_from bytes = record { drive = record { controller = slice_index bytes 0; target = slice_index bytes 1; disk = slice_index bytes 2 }; slice = slice_index bytes 3 }

key_from : List ℕ → Key
key_from bytes = (let name = take (slice_index bytes 1) (drop 2 bytes) in if slice_index bytes 0 == 0 then Local name else Set name)

with_rest : ℕ → ℕ → Key → List ℕ → Master
with_rest fresh number key rest = record {
  identity = record { fresh = fresh; number = number };
  key = key;
  slice = slice_from rest;
  start = big_number 4 (drop 4 rest);
  blocks = big_number 4 (drop 8 rest);
  index = slice_index (drop 12 rest) 0;
  count = slice_index (drop 12 rest) 1;
}

master_from : List ℕ → Master
master_from bytes = with_rest (big_number 8 (drop 8 bytes)) (big_number 4 (drop 16 bytes)) (key_from (drop 20 bytes)) (drop 34 (drop 20 bytes))

name_read : (name behind : List ℕ) → take (length name) (padded_to 32 name ++ behind) ≡ name
name_read name behind = ap (take (length name)) (append_assoc name (replicate (32 - length name) 0) behind) ∙ take_at name (replicate (32 - length name) 0 ++ behind) (length name) refl

key_read : (k : Key) (behind : List ℕ) → key_from (key_text k ++ behind) ≡ k
unfolding key_from
key_read (Local name) behind = ap Local (name_read name behind)
key_read (Set name) behind = ap Set (name_read name behind)

length-key_text : (k : Key) → IsName (name_of_key k) → length (key_text k) ≡ 34
length-key_text (Local name) is = omega (arith, length-padded_to 32 name is.short)
length-key_text (Set name) is = omega (arith, length-padded_to 32 name is.short)

seam : (size : ℕ) (a b : List ℕ) → length a ≡ size → drop size (a ++ b) ≡ b
seam size a b is = ap (λ (n : ℕ). drop n (a ++ b)) (sym is) ∙ drop-append_seam a b

abbrev fields_behind : Master → List ℕ
fields_behind m = slice_bytes m.slice ++ (big_bytes 4 m.start ++ (big_bytes 4 m.blocks ++ (m.index ∷ m.count ∷ tail (master_text m))))

rest_read : (m : Master) → IsMaster m → with_rest m.identity.fresh m.identity.number m.key (fields_behind m) ≡ m
unfolding with_rest slice_from
rest_read m form =
    let start = big_number-reads_back 4 m.start (big_bytes 4 m.blocks ++ (m.index ∷ m.count ∷ tail (master_text m))) form.start in
    let blocks = big_number-reads_back 4 m.blocks (m.index ∷ m.count ∷ tail (master_text m)) form.blocks in
    λ i. record { identity = m.identity; key = m.key; slice = m.slice; start = start i; blocks = blocks i; index = m.index; count = m.count }

master_read : (m : Master) → IsMaster m → master_from (block_of (master_text m)) ≡ m
unfolding master_from
master_read m form =
    let behind = fields_behind m in
    let fresh = big_number-reads_back 8 m.identity.fresh (big_bytes 4 m.identity.number ++ (key_text m.key ++ behind)) form.fresh in
    let number = big_number-reads_back 4 m.identity.number (key_text m.key ++ behind) form.number in
    let key = key_read m.key behind in
    let far = seam 34 (key_text m.key) behind (length-key_text m.key form.name) in
    ap master_from (master_parts m) ∙ (λ i. with_rest (fresh i) (number i) (key i) (far i)) ∙ rest_read m form

-- What is known to hold or not to.
abbrev Known : Type 0 → Type 0
Known P = P ⊎ (P → ⊥)

known_map : {P Q : Type 0} → (P → Q) → (Q → P) → Known P → Known Q
known_map to from (inl p) = inl (to p)
known_map to from (inr none) = inr (λ q. none (from q))

both : {P Q : Type 0} → Known P → Known Q → Known (P × Q)
both (inl p) (inl q) = inl (p, q)
both (inl p) (inr none) = inr (λ x. none x.1)
both (inr none) q = inr (λ x. none x.0)

below : (a b : ℕ) → Known (a < b)
below a b = elim (cases_lt a b) [ inl is ↦ inl is | inr other ↦ inr (λ is. omega (arith, is, other)) ]

most : (a b : ℕ) → Known (a ≤ b)
most a b = elim (cases_lt b a) [ inl other ↦ inr (λ is. omega (arith, is, other)) | inr is ↦ inl is ]

is_true : (b : Bool) → Known (b ≡ true)
is_true true = inl refl
is_true false = inr (λ is. false≢true is)

same_text : (a b : List ℕ) → Known (a ≡ b)
same_text a b = (let test = bytes_eq-Decides a b in known_map test.0 test.1 (is_true (bytes_eq a b)))

same_slice : (a b : SliceName) → Known (a ≡ b)
same_slice a b =
    known_map
    (λ (e : (a.drive.controller ≡ b.drive.controller) × ((a.drive.target ≡ b.drive.target) × ((a.drive.disk ≡ b.drive.disk) × (a.slice ≡ b.slice)))). λ i. record { drive = record { controller = e.0 i; target = e.1.0 i; disk = e.1.1.0 i }; slice = e.1.1.1 i })
    (λ (e : a ≡ b). (ap (λ (s : SliceName). s.drive.controller) e, (ap (λ (s : SliceName). s.drive.target) e, (ap (λ (s : SliceName). s.drive.disk) e, ap (λ (s : SliceName). s.slice) e))))
    (both (cases_eq a.drive.controller b.drive.controller) (both (cases_eq a.drive.target b.drive.target) (both (cases_eq a.drive.disk b.drive.disk) (cases_eq a.slice b.slice))))

known_name : (text : List ℕ) → Known (IsName text)
known_name text =
    known_map
    (λ (e : (length text ≤ 32) × ((begins_with_letter text ≡ true) × (list_all is_name_byte text ≡ true))). record { short = e.0; first = e.1.0; each = e.1.1 })
    (λ (is : IsName text). (is.short, (is.first, is.each)))
    (both (most (length text) 32) (both (is_true (begins_with_letter text)) (is_true (list_all is_name_byte text))))

abbrev Owned : Master → Type 0
Owned m = (m.identity.fresh < 2 ^ 64) × ((m.identity.number < 2 ^ 32) × IsName (name_of_key m.key))

abbrev Named : Master → Type 0
Named m = (m.slice.drive.controller < 256) × ((m.slice.drive.target < 256) × ((m.slice.drive.disk < 256) × (m.slice.slice < 256)))

abbrev Placed : Master → Type 0
Placed m = (m.start < 2 ^ 32) × ((m.blocks < 2 ^ 32) × ((m.index < 256) × (m.count < 256)))

known_master : (m : Master) → Known (IsMaster m)
known_master m =
    known_map
    (λ (e : Owned m × (Named m × Placed m)). record { fresh = e.0.0; number = e.0.1.0; name = e.0.1.1; controller = e.1.0.0; target = e.1.0.1.0; disk = e.1.0.1.1.0; slice = e.1.0.1.1.1; start = e.1.1.0; blocks = e.1.1.1.0; index = e.1.1.1.1.0; count = e.1.1.1.1.1 })
    (λ (is : IsMaster m). ((is.fresh, (is.number, is.name)), ((is.controller, (is.target, (is.disk, is.slice))), (is.start, (is.blocks, (is.index, is.count))))))
    (both (both (below m.identity.fresh (2 ^ 64)) (both (below m.identity.number (2 ^ 32)) (known_name (name_of_key m.key))))
    (both (both (below m.slice.drive.controller 256) (both (below m.slice.drive.target 256) (both (below m.slice.drive.disk 256) (below m.slice.slice 256))))
    (both (below m.start (2 ^ 32)) (both (below m.blocks (2 ^ 32)) (both (below m.index 256) (below m.count 256))))))

abbrev Lies : PlaceAt → ℕ → Master → Type 0
Lies at size m = (m.slice ≡ at.place.slice) × ((m.start ≡ at.place.start) × ((16 ≤ m.blocks) × ((m.blocks ≤ 8192) × ((m.blocks ≤ at.place.blocks) × (at.first + m.blocks ≤ size)))))

known_place : (at : PlaceAt) (size : ℕ) (m : Master) → Known (LiesAt at size m)
known_place at size m =
    known_map
    (λ (e : Lies at size m). record { slice = e.0; start = e.1.0; least = e.1.1.0; most = e.1.1.1.0; in_place = e.1.1.1.1.0; within = e.1.1.1.1.1 })
    (λ (is : LiesAt at size m). (is.slice, (is.start, (is.least, (is.most, (is.in_place, is.within))))))
    (both (same_slice m.slice at.place.slice) (both (cases_eq m.start at.place.start) (both (most 16 m.blocks) (both (most m.blocks 8192) (both (most m.blocks at.place.blocks) (most (at.first + m.blocks) size))))))

known_at : (at : PlaceAt) (size : ℕ) (block : List ℕ) (m : Master) → Known (IsMasterAt at size block m)
known_at at size block m =
    known_map
    (λ (e : IsMaster m × ((block ≡ block_of (master_text m)) × LiesAt at size m)). record { form = e.0; spelled = e.1.0; lies = e.1.1 })
    (λ (is : IsMasterAt at size block m). (is.form, (is.spelled, is.lies)))
    (both (known_master m) (both (same_text block (block_of (master_text m))) (known_place at size m)))

-- the slice's first master in an image, where it has one
pub first_of : (site : Site) (image : Image) (line : SliceLine) → (before : Option Master) × FirstIs site image line before
first_of site image line =
    let at = place_on line 8192 0 0 in
    let block = image line.at.drive.0 (line.at.start + 16) in
    let m = master_from block in
    by (known_at at (size_on site line) block m)
  where
    by : Known (IsMasterAt (place_on line 8192 0 0) (size_on site line) (image line.at.drive.0 (line.at.start + 16)) (master_from (image line.at.drive.0 (line.at.start + 16)))) → (before : Option Master) × FirstIs site image line before
    by (inl is) = (Some (master_from (image line.at.drive.0 (line.at.start + 16))), is)
    by (inr none) = (
      None,
      λ n is.
          let same : master_from (image line.at.drive.0 (line.at.start + 16)) ≡ n = ap master_from is.spelled ∙ master_read n is.form in
          none (subst (λ (x : Master). IsMasterAt (place_on line 8192 0 0) (size_on site line) (image line.at.drive.0 (line.at.start + 16)) x) (sym same) is),
    )
