-- No word of a line has a newline, whatever its numbers are.
use Rattle.std.proofs.Common.{◌≡◌, ◌+◌, ◌/◌, ◌%◌, ◌==◌, ◌&&◌, ℕ, Bool, true, cond, not, nat_lt, Option, None, Some, false, refl, ◌∙◌, ap, List, [], ◌∷◌, ◌++◌, length, map, codes, ne_eqb, arith}
use Rattle.std.specs.Fmt.{decimal}
use Rattle.std.specs.List.{flat_map, list_all}
use Rattle.std.proofs.lemmas.List.Folds.{list_all-append}
use Rattle.mdv_base.specs.declared.drive.SliceName.{SliceName}
use Rattle.mdv_plan.specs.declared.volume.Base.TheVariants as base
use Rattle.mdv_plan.specs.declared.volume.ReadOption.TheVariants.{First, Geometric, InTurn}
use Rattle.mdv_plan.specs.declared.volume.VolumeKind.TheVariants.{Mirror, Raid, Soft, Stripe}
use Rattle.mdv_plan.specs.declared.volume.WriteOption.TheVariants.{Parallel, Serial}
use Rattle.mdv_print.specs.Below.{Base, Component, OnePool, Part, PoolId, ReadOption, Row, Run, Spare, VolId, VolumeKind, WriteOption, slice_text, three_digits}
use Rattle.mdv_print.specs.Parts.{component_part, extent_parts, interlace_parts, kind_parts, pool_parts, read_parts, row_parts, spare_part, spares_parts, submirror_part, write_parts}
use Rattle.mdv_print.specs.Words.{next_words, part_word, pool_digits}
use Rattle.mdv_status.specs.Telling.{lacks}
use Rattle.mdv_status.proofs.Lines.{decimal_lacks}
use Rattle.mdv_status.proofs.Pieces.{lacks_append, lacks_one}

-- a slice is spelled without a newline
slice_lacks : (s : SliceName) → lacks 10 (slice_text s) ≡ true
slice_lacks s =
    let d = s.drive in
    let a = codes "c" ++ decimal d.controller in
    let b = a ++ codes "t" in
    let c = b ++ decimal d.target in
    let e = c ++ codes "d" in
    let f = e ++ decimal d.disk in
    let first : lacks 10 b ≡ true = lacks_append a (codes "t") (lacks_append (codes "c") (decimal d.controller) refl (decimal_lacks d.controller)) refl in
    let second : lacks 10 e ≡ true = lacks_append c (codes "d") (lacks_append b (decimal d.target) first (decimal_lacks d.target)) refl in
    let third : lacks 10 (f ++ codes "s") ≡ true = lacks_append f (codes "s") (lacks_append e (decimal d.disk) second (decimal_lacks d.disk)) refl in
    lacks_append (f ++ codes "s") (decimal s.slice) third (decimal_lacks s.slice)

above : (n : ℕ) → (48 + n == 10) ≡ false
above n = ne_eqb (48 + n) 10 (λ e. omega arith)

two_lack : (m n : ℕ) → lacks 10 ((48 + m) ∷ (48 + n) ∷ []) ≡ true
two_lack m n = lacks_one (48 + m) ((48 + n) ∷ []) (above m) (lacks_one (48 + n) [] (above n) refl)

digits_lack : (few : Bool) (n : ℕ) → lacks 10 (cond few (three_digits n) (decimal n)) ≡ true
digits_lack true n = lacks_one (48 + n / 100) ((48 + n / 10 % 10) ∷ (48 + n % 10) ∷ []) (above (n / 100)) (two_lack (n / 10 % 10) (n % 10))
digits_lack false n = decimal_lacks n

-- each part but a letter that is a newline
abbrev pub is_safe : Part → Bool
is_safe (Part.Letter b) = not (b == 10)
is_safe part = true

abbrev pub AreSafe : List Part → Type 0
AreSafe ps = list_all is_safe ps ≡ true

letter_lacks : (b : ℕ) → not (b == 10) ≡ true → lacks 10 (b ∷ []) ≡ true
letter_lacks b safe = ap (λ (x : Bool). x && true) safe

pub word_lacks : (p : Part) → is_safe p ≡ true → lacks 10 (part_word None p) ≡ true
word_lacks (Part.Number n) safe = decimal_lacks n
word_lacks (Part.Size n) safe = lacks_append (decimal n) (codes "b") (decimal_lacks n) refl
word_lacks (Part.Slice s) safe = slice_lacks s
word_lacks (Part.Volume v) safe = lacks_append (codes "d") (decimal v.0) refl (decimal_lacks v.0)
word_lacks (Part.Pool p) safe = lacks_append (codes "hsp") (pool_digits p.0) refl (digits_lack (nat_lt p.0 1000) p.0)
word_lacks (Part.Replicas n) safe = lacks_append (codes "mddb") ((48 + n / 10) ∷ (48 + n % 10) ∷ []) refl (two_lack (n / 10) (n % 10))
word_lacks (Part.Letter b) safe = lacks_append (codes "-") (b ∷ []) refl (letter_lacks b safe)

both : (a b : Bool) → a && b ≡ true → (a ≡ true) × (b ≡ true)
both true b is = (refl, is)
both false b is = absurd (cc (is))

pub words_lack : (ps : List Part) → AreSafe ps → lacks 10 (next_words None ps) ≡ true
words_lack [] safe = refl
words_lack (p ∷ ps) safe =
    let parts = both (is_safe p) (list_all is_safe ps) safe in
    lacks_append (32 ∷ part_word None p) (next_words None ps) (lacks_one 32 (part_word None p) refl (word_lacks p parts.0)) (words_lack ps parts.1)

-- Below: what the lines of volumes and pools have behind their names.
safe_append : (a b : List Part) → AreSafe a → AreSafe b → AreSafe (a ++ b)
safe_append a b one other = list_all-append is_safe a b ∙ ap (λ (x : Bool). x && list_all is_safe b) one ∙ other

safe_map : {X : Type 0} (part : X → Part) → ((x : X) → is_safe (part x) ≡ true) → (xs : List X) → AreSafe (map part xs)
safe_map part each [] = refl
safe_map part each (x ∷ xs) = ap (λ (b : Bool). b && list_all is_safe (map part xs)) (each x) ∙ safe_map part each xs

safe_flat : {X : Type 0} (parts : X → List Part) → ((x : X) → AreSafe (parts x)) → (xs : List X) → AreSafe (flat_map parts xs)
safe_flat parts each [] = refl
safe_flat parts each (x ∷ xs) = safe_append (parts x) (flat_map parts xs) (each x) (safe_flat parts each xs)

safe_on : (b : Base) (start blocks : ℕ) → is_safe (component_part (record { on = b; start = start; blocks = blocks })) ≡ true
safe_on (base.Slice s) start blocks = refl
safe_on (base.Volume v) start blocks = refl

safe_component : (c : Component) → is_safe (component_part c) ≡ true
safe_component c = safe_on c.on c.start c.blocks

safe_wide : (wide : Bool) (blocks : ℕ) → AreSafe (cond wide (interlace_parts blocks) [])
safe_wide true blocks = refl
safe_wide false blocks = refl

safe_spares : (spares : Option PoolId) → AreSafe (spares_parts spares)
safe_spares None = refl
safe_spares (Some q) = refl

safe_row : (row : Row) → AreSafe (row_parts row)
safe_row row =
    let wide = nat_lt 1 (length row.components) in
    safe_append (map component_part row.components) (cond wide (interlace_parts row.interlace) []) (safe_map component_part safe_component row.components) (safe_wide wide row.interlace)

safe_read : (read : ReadOption) → AreSafe (read_parts read)
safe_read InTurn = refl
safe_read Geometric = refl
safe_read First = refl

safe_write : (write : WriteOption) → AreSafe (write_parts write)
safe_write Parallel = refl
safe_write Serial = refl

safe_based : (b : Base) (ps : List Part) → AreSafe ps → AreSafe (component_part (record { on = b; start = 0; blocks = 0 }) ∷ ps)
safe_based (base.Slice s) ps safe = safe
safe_based (base.Volume v) ps safe = safe

pub safe_kind : (kind : VolumeKind) → AreSafe (kind_parts kind)
safe_kind (Stripe s) = safe_append (flat_map row_parts s.rows) (spares_parts s.spares) (safe_flat row_parts safe_row s.rows) (safe_spares s.spares)
safe_kind (Mirror m) =
    let last = Part.Number m.pass ∷ [] in
    safe_append (map submirror_part m.submirrors) (read_parts m.read ++ (write_parts m.write ++ last)) (safe_map submirror_part (λ (v : VolId). refl) m.submirrors)
    (safe_append (read_parts m.read) (write_parts m.write ++ last) (safe_read m.read) (safe_append (write_parts m.write) last (safe_write m.write) refl))
safe_kind (Raid r) =
    safe_append (map component_part r.columns) (Part.Letter 107 ∷ (interlace_parts r.interlace ++ spares_parts r.spares)) (safe_map component_part safe_component r.columns) (safe_spares r.spares)
safe_kind (Soft s) = safe_based s.base (flat_map extent_parts s.extents) (safe_flat extent_parts (λ (run : Run). refl) s.extents)

pub safe_pool : (q : OnePool) → AreSafe (pool_parts q)
safe_pool q = safe_map spare_part (λ (s : Spare). refl) q.spares
