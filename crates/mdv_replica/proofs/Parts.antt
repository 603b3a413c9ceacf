-- The fields of a block, one behind another.
use Rattle.std.proofs.Common.{◌≡◌, ◌-◌, min, ℕ, List, ◌∷◌, ◌++◌, length, take, replicate, refl, sym, ◌∙◌, ap, append_assoc, arith, codes}
use Rattle.std.proofs.lemmas.List.{take_at}
use Rattle.byteorder.specs.Endian.{big_bytes}
use Rattle.mdv_replica.specs.Below.{padded_to, IsName, SliceName, Mark, Key, Local, Set}
use Rattle.mdv_replica.specs.declared.forms.Master.{Master}
use Rattle.mdv_replica.specs.declared.forms.Gate.TheVariants.{Closed, Open}
use Rattle.mdv_replica.specs.Forms.{key_text, name_of_key, slice_bytes, master_text, claim_text, gate_text, block_of}
use Rattle.mdv_replica.proofs.Pages.{same_fronts, length-padded_to}

-- zeros behind a text
abbrev pub tail : List ℕ → List ℕ
tail text = replicate (512 - length text) 0

pub master_parts : (m : Master) → block_of (master_text m) ≡ codes "MDVREPL1" ++ (big_bytes 8 m.identity.fresh ++ (big_bytes 4 m.identity.number ++ (key_text m.key ++ (slice_bytes m.slice ++ (big_bytes 4 m.start ++ (big_bytes 4 m.blocks ++ (m.index ∷ m.count ∷ tail (master_text m))))))))
unfolding master_text
master_parts m = simp append_assoc

pub claim_parts : (n : ℕ) → block_of (claim_text n) ≡ codes "MDVCLAIM" ++ (big_bytes 8 n ++ tail (claim_text n))
unfolding claim_text
claim_parts n = refl

abbrev pub kind_of : Key → ℕ
kind_of (Local name) = 0
kind_of (Set name) = 1

-- the fields of a key, as they are read
pub record IsKeyRead (k : Key) (kind count : ℕ) (field rest behind : List ℕ) : Type 0 where
  pub as_kind : kind ≡ kind_of k
  pub as_count : count ≡ length (name_of_key k)
  pub as_name : take (min count 32) field ≡ name_of_key k
  pub as_rest : rest ≡ behind

key_fields : (k : Key) → key_text k ≡ kind_of k ∷ length (name_of_key k) ∷ padded_to 32 (name_of_key k)
key_fields (Local name) = refl
key_fields (Set name) = refl

pub key_read : (k : Key) (kind count : ℕ) (old one two field rest behind : List ℕ) → IsName (name_of_key k) → old ≡ kind ∷ one → one ≡ count ∷ two → two ≡ field ++ rest → length field ≡ 32 → old ≡ key_text k ++ behind → IsKeyRead k kind count field rest behind
key_read k kind count old one two field rest behind named first second third size is =
    let spelled : kind ∷ count ∷ (field ++ rest) ≡ kind_of k ∷ length (name_of_key k) ∷ (padded_to 32 (name_of_key k) ++ behind) =
    sym (first ∙ ap (λ (l : List ℕ). kind ∷ l) (second ∙ ap (λ (l : List ℕ). count ∷ l) third)) ∙ is ∙ ap (λ (l : List ℕ). l ++ behind) (key_fields k) in
    let counted : count ≡ length (name_of_key k) = cc in
    let fields : field ++ rest ≡ padded_to 32 (name_of_key k) ++ behind = cc in
    let parts = same_fronts field (padded_to 32 (name_of_key k)) rest behind (size ∙ sym (length-padded_to 32 (name_of_key k) named.short)) fields in
    let cut : min count 32 ≡ length (name_of_key k) = omega (arith, named.short) in
    record {
      as_kind = cc;
      as_count = counted;
      as_name = ap (λ (n : ℕ). take n field) cut ∙ ap (λ (l : List ℕ). take (length (name_of_key k)) l) parts.0 ∙ take_at (name_of_key k) (replicate (32 - length (name_of_key k)) 0) (length (name_of_key k)) refl;
      as_rest = parts.1;
    }

pub slice_read : (a b : SliceName) (x y : List ℕ) → slice_bytes a ++ x ≡ slice_bytes b ++ y → (a ≡ b) × (x ≡ y)
slice_read a b x y is =
    let controller : a.drive.controller ≡ b.drive.controller = cc in
    let target : a.drive.target ≡ b.drive.target = cc in
    let disk : a.drive.disk ≡ b.drive.disk = cc in
    let slice : a.slice ≡ b.slice = cc in
    (λ i. record { drive = record { controller = controller i; target = target i; disk = disk i }; slice = slice i }, cc)

-- the text in front of the fields is passed over
pub behind_text : (text field old rest fields : List ℕ) → length field ≡ length text → old ≡ field ++ rest → old ≡ text ++ fields → rest ≡ fields
behind_text text field old rest fields size split is = (same_fronts field text rest fields size (sym split ∙ is)).1

pub gate_closed_parts : block_of (gate_text Closed) ≡ codes "MDVGATE1" ++ (0 ∷ (big_bytes 8 0 ++ (big_bytes 8 0 ++ (big_bytes 4 0 ++ tail (gate_text Closed)))))
unfolding gate_text
gate_closed_parts = refl

pub gate_open_parts : (mark : Mark) (bytes : ℕ) → block_of (gate_text (Open mark bytes)) ≡ codes "MDVGATE1" ++ (1 ∷ (big_bytes 8 mark.boot ++ (big_bytes 8 mark.count ++ (big_bytes 4 bytes ++ tail (gate_text (Open mark bytes))))))
unfolding gate_text
gate_open_parts mark bytes = refl
