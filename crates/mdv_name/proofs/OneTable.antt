-- A text reads as one table of drives, or has a wrong line.
use Rattle.std.proofs.Common.{◌≡◌, ◌<◌, ◌+◌, ℕ, Bool, true, false, cond, refl, sym, ◌∙◌, ap, subst, List, [], ◌∷◌, ◌++◌, length, map, take, suc, get_or, ◌==◌, Option, Some, inl, inr, arith}
use Rattle.std.proofs.lemmas.Bool.{cases_lt}
use Rattle.std.proofs.lemmas.Bool.Decides.{nat_tests}
use Rattle.std.proofs.lemmas.List.{map-append}
use Rattle.std.proofs.lemmas.List.Sums.{sum_by-append, sum_by-cons}
use Rattle.std.specs.Prelude.{sum_by, slice_get}
use Rattle.std.specs.List.{prefix_len}
use Rattle.mdv_base.specs.declared.drive.DriveName.{DriveName}
use Rattle.mdv_text.specs.Words.{words, lengthened, begins_with_word}
use Rattle.mdv_name.specs.declared.drive_line.DriveLine.{DriveLine}
use Rattle.mdv_name.specs.declared.drive_line.DriveKind.{DriveKind}
use Rattle.mdv_name.specs.declared.drive_line.DriveKind.TheVariants.{Own, Shared, Mediator}
use Rattle.mdv_name.specs.declared.entry.Entry.{Entry}
use Rattle.mdv_name.specs.declared.entry.Entry.TheVariants.{Host, Drive, Slice}
use Rattle.mdv_name.specs.declared.geometry.Geometry.{Geometry}
use Rattle.mdv_name.specs.DriveIndex.{IsDriveAt, HasNoDrive, drive_of, named_drive}
use Rattle.mdv_name.specs.Entry.{entry_words, drive_words}
use Rattle.mdv_name.specs.Geometry.{empty, Adds, AddsLine, CountsForNothing, ReadsLines, IsGeometry, IsBadLine, IsFreshKind, slice_line, begins_with_hash}
use Rattle.mdv_name.specs.Lines.{lines, content, is_within_line}
use Rattle.mdv_name.proofs.Entries.{one_entry}
use Rattle.mdv_name.proofs.Fresh.{at_line}
use Rattle.mdv_name.proofs.Places.{old, last, pushed_at}

-- each drive stands at one place
abbrev AreApart : List DriveLine → Type 0
AreApart ls = (m n : ℕ) (name : DriveName) → IsDriveAt ls m name → IsDriveAt ls n name → m ≡ n

none_apart : AreApart []
none_apart m n name first second = cc

push_apart : (ls : List DriveLine) (line : DriveLine) → AreApart ls → ((name : DriveName) → drive_of line.kind ≡ Some name → HasNoDrive ls name) → AreApart (ls ++ line ∷ [])
push_apart ls line apart fresh m n name first second =
    let more = map-append named_drive ls (line ∷ []) in
    let at = λ (k : ℕ) (is : IsDriveAt (ls ++ line ∷ []) k name). pushed_at (map named_drive ls) (named_drive line) k (Some name) (sym (ap (λ (l : List (Option DriveName)). slice_get l k) more) ∙ is) in
    elim (at m first) [
      | old a ↦ elim (at n second) [ old b ↦ apart m n name a b | last named place ↦ absurd (fresh name named m a) ]
      | last named place ↦ elim (at n second) [ old b ↦ absurd (fresh name named n b) | last also other ↦ place ∙ sym other ]
    ]

fresh_kind : (g : Geometry) (k : DriveKind) → IsFreshKind g k → (name : DriveName) → drive_of k ≡ Some name → HasNoDrive g.drives name
fresh_kind g (Own drive host) fresh name is = subst (HasNoDrive g.drives) (cc) fresh.1
fresh_kind g (Shared drive) fresh name is = subst (HasNoDrive g.drives) (cc) fresh
fresh_kind g (Mediator host) fresh name is = cc

adds_apart : (g h : Geometry) (e : Entry) → AreApart g.drives → Adds g e h → AreApart h.drives
adds_apart g h (Host name) apart adds = subst (λ (k : Geometry). AreApart k.drives) (sym adds.1) apart
adds_apart g h (Drive d) apart adds = subst (λ (k : Geometry). AreApart k.drives) (sym adds.2) (push_apart g.drives d apart (fresh_kind g d.kind adds.1))
adds_apart g h (Slice s) apart adds = subst (λ (k : Geometry). AreApart k.drives) (sym adds.2) apart

adds_one : (g h k : Geometry) (e : Entry) → AreApart g.drives → Adds g e h → Adds g e k → h ≡ k
adds_one g h k (Host name) apart first second = first.1 ∙ sym second.1
adds_one g h k (Drive d) apart first second = first.2 ∙ sym second.2
adds_one g h k (Slice s) apart first second =
    let a = first.1 in
    let b = second.1 in
    let same : first.0 ≡ second.0 = apart first.0 second.0 s.name.drive (at_line g.drives first.0 s.name.drive a.line a.place a.named) (at_line g.drives second.0 s.name.drive b.line b.place b.named) in
    first.2 ∙ ap (λ (n : ℕ). let r : Geometry = record { hosts = g.hosts; drives = g.drives; slices = g.slices ++ slice_line s n ∷ [] } in r) same ∙ sym second.2

-- the first word of a line that begins with `#` does too
-- the content of such a line begins with it
content_hash : (bs : List ℕ) → (cs : List ℕ) × (content (35 ∷ bs) ≡ 35 ∷ cs)
content_hash bs = let step : 1 + prefix_len is_within_line bs ≡ suc (prefix_len is_within_line bs) = omega arith in (take (prefix_len is_within_line bs) bs, ap (λ (n : ℕ). take n (35 ∷ bs)) step)

lengthened_first : (b : ℕ) (ws : List (List ℕ)) → get_or (get_or (lengthened b ws) 0 []) 0 0 ≡ b
lengthened_first b [] = refl
lengthened_first b (w ∷ ws) = refl

hash_words : (cs : List ℕ) → get_or (get_or (words (35 ∷ cs)) 0 []) 0 0 ≡ 35
hash_words cs =
    let P : Bool → Type 0 = λ v. get_or (get_or (cond v (lengthened 35 (words cs)) ((35 ∷ []) ∷ words cs)) 0 []) 0 0 ≡ 35 in
    elim (begins_with_word cs) as P [ true ↦ lengthened_first 35 (words cs) | false ↦ refl ]

hash_begins : (t : List ℕ) → (cs : List ℕ) × (t ≡ 35 ∷ cs) → get_or (get_or (words t) 0 []) 0 0 ≡ 35
hash_begins t begins = ap (λ (l : List ℕ). get_or (get_or (words l) 0 []) 0 0) begins.1 ∙ hash_words begins.0

hash_word : (line : List ℕ) → begins_with_hash line ≡ true → get_or (get_or (words (content line)) 0 []) 0 0 ≡ 35
hash_word [] is = cc
hash_word (b ∷ bs) is =
    let code : b ≡ 35 = grind (arith, nat_tests) in
    let P : ℕ → Type 0 = λ c. get_or (get_or (words (content (c ∷ bs))) 0 []) 0 0 ≡ 35 in
    subst P (sym code) (hash_begins (content (35 ∷ bs)) (content_hash bs))

no_hash_drive : (k : DriveKind) (a : ℕ) (f : List ℕ) → get_or (get_or (drive_words k a f) 0 []) 0 0 ≡ 35 → ⊥
no_hash_drive (Own d s) a f is = omega (arith, is)
no_hash_drive (Shared d) a f is = omega (arith, is)
no_hash_drive (Mediator s) a f is = omega (arith, is)

no_hash : (e : Entry) → get_or (get_or (entry_words e) 0 []) 0 0 ≡ 35 → ⊥
no_hash (Host name) is = omega (arith, is)
no_hash (Drive d) is = no_hash_drive d.kind d.blocks d.file is
no_hash (Slice s) is = omega (arith, is)

never_nothing_drive : (k : DriveKind) (a : ℕ) (f : List ℕ) → [] ≡ drive_words k a f → ⊥
never_nothing_drive (Own d s) a f is = cc
never_nothing_drive (Shared d) a f is = cc
never_nothing_drive (Mediator s) a f is = cc

never_nothing : (e : Entry) → [] ≡ entry_words e → ⊥
never_nothing (Host name) is = cc
never_nothing (Drive d) is = never_nothing_drive d.kind d.blocks d.file is
never_nothing (Slice s) is = cc

counts_or_says : (line : List ℕ) (e : Entry) → CountsForNothing line → words (content line) ≡ entry_words e → ⊥
counts_or_says line e (inl hash) is = no_hash e (sym (ap (λ (l : List (List ℕ)). get_or (get_or l 0 []) 0 0) is) ∙ hash_word line hash)
counts_or_says line e (inr blank) is = never_nothing e (sym blank ∙ is)

line_one : (g h k : Geometry) (line : List ℕ) → AreApart g.drives → AddsLine g line h → AddsLine g line k → h ≡ k
line_one g h k line apart (inl a) (inl b) = a.1 ∙ sym b.1
line_one g h k line apart (inl a) (inr b) = absurd (counts_or_says line b.0 a.0 b.2)
line_one g h k line apart (inr a) (inl b) = absurd (counts_or_says line a.0 b.0 a.2)
line_one g h k line apart (inr a) (inr b) = adds_one g h k a.0 apart a.3 (subst (λ (e : Entry). Adds g e k) (one_entry b.0 a.0 b.1 a.1 (sym b.2 ∙ a.2)) b.3)

line_apart : (g h : Geometry) (line : List ℕ) → AreApart g.drives → AddsLine g line h → AreApart h.drives
line_apart g h line apart (inl a) = subst (λ (k : Geometry). AreApart k.drives) (sym a.1) apart
line_apart g h line apart (inr a) = adds_apart g h a.0 apart a.3

reads_one : (g h k : Geometry) (ls : List (List ℕ)) → AreApart g.drives → ReadsLines g ls h → ReadsLines g ls k → h ≡ k
reads_one g h k [] apart first second = first ∙ sym second
reads_one g h k (l ∷ ls) apart first second =
    let same : second.0 ≡ first.0 = line_one g second.0 first.0 l apart second.1 first.1 in
    reads_one first.0 h k ls (line_apart g first.0 l apart first.1) first.2 (subst (λ (m : Geometry). ReadsLines m ls k) same second.2)

reads_split : (g h : Geometry) (front behind : List (List ℕ)) → ReadsLines g (front ++ behind) h → (m : Geometry) × ReadsLines g front m × ReadsLines m behind h
reads_split g h [] behind read = (g, refl, read)
reads_split g h (l ∷ front) behind read =
    let rest = reads_split read.0 h front behind read.2 in
    (rest.0, (read.0, read.1, rest.1), rest.2)

sum-lengthened : (b : ℕ) (ls : List (List ℕ)) → sum_by length (lengthened b ls) ≡ 1 + sum_by length ls
sum-lengthened b [] = omega arith
sum-lengthened b (l ∷ ls) = omega (arith, sum_by-cons length (b ∷ l) ls, sum_by-cons length l ls)

sum-lines : (t : List ℕ) → sum_by length (lines t) ≡ length t
sum-lines [] = refl
sum-lines (b ∷ bs) =
    let next : sum_by length (lines bs) ≡ length bs = sum-lines bs in
    let P : Bool → Type 0 = λ v. sum_by length (cond v ((b ∷ []) ∷ lines bs) (lengthened b (lines bs))) ≡ length (b ∷ bs) in
    elim (b == 10) as P [ true ↦ omega (arith, next, sum_by-cons length (b ∷ []) (lines bs)) | false ↦ omega (arith, next, sum-lengthened b (lines bs)) ]

pub one_table : (text : List ℕ) (g h : Geometry) → IsGeometry text g → IsGeometry text h → g ≡ h
one_table text g h first second = reads_one empty g h (lines text) none_apart first.read second.read

pub never_both : (text : List ℕ) (g : Geometry) (n : ℕ) → IsGeometry text g → IsBadLine text n → ⊥
never_both text g n whole bad =
    let parts = reads_split empty g bad.front (bad.line ∷ bad.behind) (subst (λ (ls : List (List ℕ)). ReadsLines empty ls g) bad.place whole.read) in
    let same : parts.0 ≡ bad.geometry = reads_one empty parts.0 bad.geometry bad.front none_apart parts.1 bad.read in
    elim bad.bad [
      | inl long ↦ omega (arith, long, whole.short, sum-lines text, ap (sum_by length) bad.place, sum_by-append length bad.front (bad.line ∷ bad.behind), sum_by-cons length bad.line bad.behind)
      | inr refused ↦ refused parts.2.0 (subst (λ (m : Geometry). AddsLine m bad.line parts.2.0) same parts.2.1)
    ]

-- of two ways to part a list, the longer front has the other's middle
longer_front :
    (a b : List (List ℕ)) (x : List ℕ) (xs : List (List ℕ)) (y : List ℕ) (ys : List (List ℕ)) →
    a ++ x ∷ xs ≡ b ++ y ∷ ys → length a < length b → (rest : List (List ℕ)) × (b ≡ a ++ x ∷ rest)
longer_front [] [] x xs y ys is longer = absurd (omega arith)
longer_front [] (z ∷ zs) x xs y ys is longer = let same : z ≡ x = cc in (zs, ap (λ (l : List ℕ). l ∷ zs) same)
longer_front (c ∷ cs) [] x xs y ys is longer = absurd (omega arith)
longer_front (c ∷ cs) (d ∷ ds) x xs y ys is longer =
    let tails : cs ++ x ∷ xs ≡ ds ++ y ∷ ys = cc in
    let heads : d ≡ c = cc in
    let rest = longer_front cs ds x xs y ys tails (omega arith) in
    (rest.0, ap (λ (l : List ℕ). l ∷ ds) heads ∙ ap (λ (l : List (List ℕ)). c ∷ l) rest.1)

never_earlier : (text : List ℕ) (m n : ℕ) → IsBadLine text m → IsBadLine text n → m < n → ⊥
never_earlier text m n first second earlier =
    let longer = longer_front first.front second.front first.line first.behind second.line second.behind (sym first.place ∙ second.place) (omega (arith, first.number, second.number)) in
    let parts = reads_split empty second.geometry first.front (first.line ∷ longer.0) (subst (λ (ls : List (List ℕ)). ReadsLines empty ls second.geometry) longer.1 second.read) in
    let same : parts.0 ≡ first.geometry = reads_one empty parts.0 first.geometry first.front none_apart parts.1 first.read in
    elim first.bad [
      | inl long ↦ omega (arith, long, second.short, ap (sum_by length) longer.1, sum_by-append length first.front (first.line ∷ longer.0), sum_by-cons length first.line longer.0)
      | inr refused ↦ refused parts.2.0 (subst (λ (g : Geometry). AddsLine g first.line parts.2.0) same parts.2.1)
    ]

pub one_bad_line : (text : List ℕ) (m n : ℕ) → IsBadLine text m → IsBadLine text n → m ≡ n
one_bad_line text m n first second =
    elim (cases_lt m n) [
      | inl less ↦ absurd (never_earlier text m n first second less)
      | inr more ↦ elim (cases_lt n m) [ inl less ↦ absurd (never_earlier text n m second first less) | inr also ↦ omega arith ]
    ]
