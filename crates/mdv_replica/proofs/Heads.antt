-- Blocks spell one head at most.
use Rattle.std.proofs.Common.{◌≡◌, ◌<◌, ◌^◌, ◌-◌, ℕ, zero, suc, refl, sym, ◌∙◌, ap, List, [], ◌∷◌, ◌++◌, length, get_or, replicate, arith, codes}
use Rattle.byteorder.specs.Endian.{big_bytes, big_number}
use Rattle.byteorder.specs.Numbers.{big_number-reads_back}
use Rattle.mdv_replica.specs.Below.{padded_to, IsName, Key, Local, Set}
use Rattle.mdv_replica.specs.declared.forms.Gate.{Gate}
use Rattle.mdv_replica.specs.declared.forms.Gate.TheVariants.{Closed, Open}
use Rattle.mdv_replica.specs.declared.forms.Master.{Master}
use Rattle.mdv_replica.specs.declared.replica.Head.{Head}
use Rattle.mdv_replica.specs.declared.replica.PlaceAt.{PlaceAt}
use Rattle.mdv_replica.specs.Forms.{key_text, name_of_key, master_text, claim_text, gate_text, block_of, IsMaster, IsGate}
use Rattle.mdv_replica.specs.Replica.{IsHeadOf}
use Rattle.mdv_replica.proofs.Pages.{same_fronts, length-padded_to}
use Rattle.mdv_replica.proofs.Parts.{master_parts, claim_parts, gate_closed_parts, gate_open_parts, slice_read, tail}

starts_with_zero : (n : ℕ) (xs : List ℕ) → replicate n 0 ≡ 77 ∷ xs → ⊥
starts_with_zero zero xs is = cc
starts_with_zero (suc n) xs is = let bytes : 0 ≡ 77 = ap (λ (l : List ℕ). get_or l 0 0) is in absurd (omega (arith, bytes))

-- a blank block is no master's
pub no_blank_master : (m : Master) → block_of [] ≡ block_of (master_text m) → ⊥
no_blank_master m is = starts_with_zero 512 _ (is ∙ master_parts m)

-- what follows the text that both begin with
behind_mark : (mark x y : List ℕ) → mark ++ x ≡ mark ++ y → x ≡ y
behind_mark mark x y is = (same_fronts mark mark x y refl is).1

-- a block that a closed gate spells is spelled by no other
pub closed_only : (g : Gate) → block_of (gate_text g) ≡ block_of (gate_text Closed) → g ≡ Closed
closed_only Closed is = refl
closed_only (Open mark bytes) is =
    let states = behind_mark (codes "MDVGATE1") _ _ (sym (gate_open_parts mark bytes) ∙ is ∙ gate_closed_parts) in
    let state : 1 ≡ 0 = ap (λ (l : List ℕ). get_or l 0 0) states in
    absurd (omega (arith, state))

-- numbers of four and of eight bytes in front
number_four : (a b : ℕ) (x y : List ℕ) → a < 2 ^ 32 → b < 2 ^ 32 → big_bytes 4 a ++ x ≡ big_bytes 4 b ++ y → (a ≡ b) × (x ≡ y)
number_four a b x y fits also is =
    let parts = same_fronts (big_bytes 4 a) (big_bytes 4 b) x y refl is in
    (sym (big_number-reads_back 4 a [] fits) ∙ ap (big_number 4) parts.0 ∙ big_number-reads_back 4 b [] also, parts.1)

number_eight : (a b : ℕ) (x y : List ℕ) → a < 2 ^ 64 → b < 2 ^ 64 → big_bytes 8 a ++ x ≡ big_bytes 8 b ++ y → (a ≡ b) × (x ≡ y)
number_eight a b x y fits also is =
    let parts = same_fronts (big_bytes 8 a) (big_bytes 8 b) x y refl is in
    (sym (big_number-reads_back 8 a [] fits) ∙ ap (big_number 8) parts.0 ∙ big_number-reads_back 8 b [] also, parts.1)

one_name : (n m x y : List ℕ) → IsName n → IsName m → length n ∷ (padded_to 32 n ++ x) ≡ length m ∷ (padded_to 32 m ++ y) → (n ≡ m) × (x ≡ y)
one_name n m x y named also is =
    let counts : length n ≡ length m = cc in
    let fields : padded_to 32 n ++ x ≡ padded_to 32 m ++ y = cc in
    let parts = same_fronts (padded_to 32 n) (padded_to 32 m) x y (length-padded_to 32 n named.short ∙ sym (length-padded_to 32 m also.short)) fields in
    ((same_fronts n m (replicate (32 - length n) 0) (replicate (32 - length m) 0) counts parts.0).0, parts.1)

one_key : (k l : Key) (x y : List ℕ) → IsName (name_of_key k) → IsName (name_of_key l) → key_text k ++ x ≡ key_text l ++ y → (k ≡ l) × (x ≡ y)
one_key (Local n) (Local m) x y named also is = let parts = one_name n m x y named also (cc) in (ap Local parts.0, parts.1)
one_key (Set n) (Set m) x y named also is = let parts = one_name n m x y named also (cc) in (ap Set parts.0, parts.1)
one_key (Local n) (Set m) x y named also is = let kinds : 0 ≡ 1 = ap (λ (l : List ℕ). get_or l 0 0) is in absurd (omega (arith, kinds))
one_key (Set n) (Local m) x y named also is = let kinds : 1 ≡ 0 = ap (λ (l : List ℕ). get_or l 0 0) is in absurd (omega (arith, kinds))

one_master : (a b : Master) → IsMaster a → IsMaster b → block_of (master_text a) ≡ block_of (master_text b) → a ≡ b
one_master a b form also is =
    let fresh = number_eight a.identity.fresh b.identity.fresh _ _ form.fresh also.fresh (behind_mark (codes "MDVREPL1") _ _ (sym (master_parts a) ∙ is ∙ master_parts b)) in
    let number = number_four a.identity.number b.identity.number _ _ form.number also.number fresh.1 in
    let key = one_key a.key b.key _ _ form.name also.name number.1 in
    let slice = slice_read a.slice b.slice _ _ key.1 in
    let start = number_four a.start b.start _ _ form.start also.start slice.1 in
    let blocks = number_four a.blocks b.blocks _ _ form.blocks also.blocks start.1 in
    let ends : a.index ∷ a.count ∷ tail (master_text a) ≡ b.index ∷ b.count ∷ tail (master_text b) = blocks.1 in
    let index : a.index ≡ b.index = cc (ends) in
    let count : a.count ≡ b.count = cc (ends) in
    λ i. record { identity = record { fresh = fresh.0 i; number = number.0 i }; key = key.0 i; slice = slice.0 i; start = start.0 i; blocks = blocks.0 i; index = index i; count = count i }

one_claim : (a b : ℕ) → a < 2 ^ 63 → b < 2 ^ 63 → block_of (claim_text a) ≡ block_of (claim_text b) → a ≡ b
one_claim a b fits also is = (number_eight a b _ _ (omega arith) (omega arith) (behind_mark (codes "MDVCLAIM") _ _ (sym (claim_parts a) ∙ is ∙ claim_parts b))).0

one_gate : (g h : Gate) → IsGate g → IsGate h → block_of (gate_text g) ≡ block_of (gate_text h) → g ≡ h
one_gate g Closed form also is = closed_only g is
one_gate Closed (Open mark bytes) form also is = sym (closed_only (Open mark bytes) (sym is))
one_gate (Open one few) (Open mark bytes) form also is =
    let boot = number_eight one.boot mark.boot _ _ (omega (arith, form.0.boot)) (omega (arith, also.0.boot)) (behind_mark (codes "MDVGATE1" ++ 1 ∷ []) _ _ (sym (gate_open_parts one few) ∙ is ∙ gate_open_parts mark bytes)) in
    let count = number_eight one.count mark.count _ _ (omega (arith, form.0.count)) (omega (arith, also.0.count)) boot.1 in
    let length = number_four few bytes _ _ form.1 also.1 count.1 in
    λ i. Open (record { boot = boot.0 i; count = count.0 i }) (length.0 i)

-- four blocks spell one head at most
pub one_head : (at : PlaceAt) (size : ℕ) (w x y z : List ℕ) (a b : Head) → IsHeadOf at size w x y z a → IsHeadOf at size w x y z b → a ≡ b
one_head at size w x y z a b first second =
    let master = one_master a.master b.master first.master second.master (sym first.master_block ∙ second.master_block) in
    let claim = one_claim a.claim b.claim first.claim second.claim (sym first.claim_block ∙ second.claim_block) in
    let one = one_gate a.first b.first first.first second.first (sym first.first_block ∙ second.first_block) in
    let two = one_gate a.second b.second first.second second.second (sym first.second_block ∙ second.second_block) in
    λ i. record { master = master i; claim = claim i; first = one i; second = two i }
