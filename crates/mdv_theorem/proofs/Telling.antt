-- Which refusal a line tells: its number stands behind `refused E`.
use Rattle.std.proofs.Common.{◌≡◌, ℕ, Bool, true, false, not, ◌&&◌, ◌||◌, ◌+◌, ◌*◌, ◌-◌, List, [], ◌∷◌, ◌++◌, All, take, slice_index_or, if◌then◌else◌, refl, sym, ◌∙◌, ap, append_assoc, subst, arith}
use Rattle.std.proofs.lemmas.List.Elements.{All-head}
use Rattle.std.proofs.lemmas.Slice.Eq.{bytes_eq-Decides}
use Rattle.std.specs.List.{concat}
use Rattle.std.specs.Str.{bytes_eq}
use Rattle.mdv_base.specs.declared.name.Named.{Named}
use Rattle.mdv_listing.specs.Listing.{listing_of}
use Rattle.mdv_listing.proofs.Lines.{listings_are_lines}
use Rattle.mdv_plan.specs.declared.plan.Plan.{Plan}
use Rattle.std.specs.Prelude.{◌==◌}
use Rattle.std.specs.Fmt.{digits}
use Rattle.mdv_base.specs.Refusal.{number_of}
use Rattle.mdv_base.specs.declared.refusal.Refusal.{Refusal}
use Rattle.mdv_base.specs.declared.refusal.Refusal.TheVariants.{BadLine, NoDatabase, NeedForce, NoSuchVolume, NameTaken, NoSuchSlice, SliceInUse, TooFew, TooMany, TooSmall, HasParent, WrongKind, WrongState, LastCopy, NoSpace, Nested, ReplicaFull, NotOwner, OwnedByOther, NoSuchSet, NoSuchHost, OutOfRange, IoFault, OutOfMemory, BadInterlace, NoSuchPool, SpareInUse, SetNoQuorum, LineTooLong}
use Rattle.mdv_engine_law.specs.Replies.{ok_line, refusal_line}
use Rattle.mdv_status.specs.Telling.{IsQuietLine, begins_with_digit, ends_reply, lacks, refused}
use Rattle.mdv_status.specs.Values.{entries_reply, printed_reply, value_line, values_reply, values_text}
use Rattle.mdv_status.proofs.Lines.{is_value_line}

-- the number of one digit, or of two, from the tenth byte on
abbrev pub number_told : List ℕ → ℕ
number_told line = if slice_index_or line 10 0 == 32 then slice_index_or line 9 0 - 48 else (slice_index_or line 9 0 - 48) * 10 + (slice_index_or line 10 0 - 48)

is_told : (r : Refusal) → number_told (refusal_line r) ≡ number_of r
unfolding digits
is_told BadLine = refl
is_told NoDatabase = refl
is_told NeedForce = refl
is_told NoSuchVolume = refl
is_told NameTaken = refl
is_told NoSuchSlice = refl
is_told SliceInUse = refl
is_told TooFew = refl
is_told TooMany = refl
is_told TooSmall = refl
is_told HasParent = refl
is_told WrongKind = refl
is_told (WrongState w) = refl
is_told LastCopy = refl
is_told (NoSpace n) = refl
is_told Nested = refl
is_told (ReplicaFull bytes room) = refl
is_told NotOwner = refl
is_told (OwnedByOther host) = refl
is_told NoSuchSet = refl
is_told NoSuchHost = refl
is_told OutOfRange = refl
is_told IoFault = refl
is_told OutOfMemory = refl
is_told BadInterlace = refl
is_told NoSuchPool = refl
is_told SpareInUse = refl
is_told (SetNoQuorum readable needed) = refl
is_told LineTooLong = refl

-- two refusals that are told alike have one number
pub one_number : (r s : Refusal) → refusal_line r ≡ refusal_line s → number_of r ≡ number_of s
one_number r s same = sym (is_told r) ∙ ap number_told same ∙ is_told s

-- by its number it is this one
pub is_fault : (r : Refusal) → number_of r ≡ 23 → r ≡ IoFault
is_fault IoFault is = refl
is_fault _ is = absurd (omega (arith, is))

-- `ok` tells no refusal
pub ok_is_none : (r : Refusal) → ok_line ≡ refusal_line r → ⊥
ok_is_none r is = let first : 111 ≡ 114 = ap (λ (l : List ℕ). slice_index_or l 0 0) is in omega (arith, first)

-- nor does a number of entries
pub entries_are_none : (n : ℕ) (r : Refusal) → entries_reply n ≡ refusal_line r → ⊥
entries_are_none n r is = let first : 101 ≡ 114 = ap (λ (l : List ℕ). slice_index_or l 0 0) is in omega (arith, first)

-- nor do values, which begin with a digit
pub begins_append : (text rest : List ℕ) → begins_with_digit text ≡ true → begins_with_digit (text ++ rest) ≡ true
begins_append [] rest is = absurd (cc (is))
begins_append (b ∷ text) rest is = is

pub values_are_none : (at : ℕ) (blocks : List (List ℕ)) (r : Refusal) → values_reply at blocks ≡ refusal_line r → ⊥
values_are_none at [] r is = ok_is_none r is
values_are_none at (block ∷ blocks) r is =
    let line = is_value_line at block in
    let one : begins_with_digit (value_line at block) ≡ true = ap begins_with_digit line.line ∙ begins_append line.text (10 ∷ []) line.digit in
    let all : begins_with_digit (values_reply at (block ∷ blocks)) ≡ true = ap begins_with_digit (append_assoc (value_line at block) (values_text (at + 1) blocks) ok_line) ∙ begins_append (value_line at block) (values_reply (at + 1) blocks) one in
    let none : false ≡ true = sym (ap begins_with_digit is) ∙ all in
    absurd (cc (none))

-- nor does a text of quiet lines
and_never : (b : Bool) → (b && false) ≡ false
and_never true = refl
and_never false = refl

has_newline : (text : List ℕ) → lacks 10 (text ++ 10 ∷ []) ≡ false
has_newline [] = refl
has_newline (b ∷ bs) = ap (λ (rest : Bool). not (b == 10) && rest) (has_newline bs) ∙ and_never (not (b == 10))

ends_so : (ok lack begins : Bool) → lack ≡ false → begins ≡ true → (ok || (not lack && begins)) ≡ true
ends_so true lack begins newline front = refl
ends_so false lack begins newline front = λ i. not (newline i) && front i

first_piece : (text rest : List ℕ) (r : Refusal) → ends_reply (text ++ 10 ∷ []) ≡ false → text ++ 10 ∷ rest ≡ refusal_line r → ⊥
unfolding digits
first_piece [] rest r quiet is = let at : 10 ≡ 114 = ap (λ (l : List ℕ). slice_index_or l 0 0) is in omega (arith, at)
first_piece (a ∷ []) rest r quiet is = let at : 10 ≡ 101 = ap (λ (l : List ℕ). slice_index_or l 1 0) is in omega (arith, at)
first_piece (a ∷ b ∷ []) rest r quiet is = let at : 10 ≡ 102 = ap (λ (l : List ℕ). slice_index_or l 2 0) is in omega (arith, at)
first_piece (a ∷ b ∷ c ∷ []) rest r quiet is = let at : 10 ≡ 117 = ap (λ (l : List ℕ). slice_index_or l 3 0) is in omega (arith, at)
first_piece (a ∷ b ∷ c ∷ d ∷ []) rest r quiet is = let at : 10 ≡ 115 = ap (λ (l : List ℕ). slice_index_or l 4 0) is in omega (arith, at)
first_piece (a ∷ b ∷ c ∷ d ∷ e ∷ []) rest r quiet is = let at : 10 ≡ 101 = ap (λ (l : List ℕ). slice_index_or l 5 0) is in omega (arith, at)
first_piece (a ∷ b ∷ c ∷ d ∷ e ∷ f ∷ []) rest r quiet is = let at : 10 ≡ 100 = ap (λ (l : List ℕ). slice_index_or l 6 0) is in omega (arith, at)
first_piece (a ∷ b ∷ c ∷ d ∷ e ∷ f ∷ g ∷ []) rest r quiet is = let at : 10 ≡ 32 = ap (λ (l : List ℕ). slice_index_or l 7 0) is in omega (arith, at)
first_piece (a ∷ b ∷ c ∷ d ∷ e ∷ f ∷ g ∷ h ∷ []) rest r quiet is = let at : 10 ≡ 69 = ap (λ (l : List ℕ). slice_index_or l 8 0) is in omega (arith, at)
first_piece (a ∷ b ∷ c ∷ d ∷ e ∷ f ∷ g ∷ h ∷ i ∷ more) rest r quiet is =
    let front : a ∷ b ∷ c ∷ d ∷ e ∷ f ∷ g ∷ h ∷ i ∷ [] ≡ refused = ap (λ (l : List ℕ). take 9 l) is in
    let begins = (bytes_eq-Decides (a ∷ b ∷ c ∷ d ∷ e ∷ f ∷ g ∷ h ∷ i ∷ []) refused).1 front in
    let newline : lacks 10 (a ∷ b ∷ c ∷ d ∷ e ∷ f ∷ g ∷ h ∷ i ∷ (more ++ 10 ∷ [])) ≡ false = has_newline (a ∷ b ∷ c ∷ d ∷ e ∷ f ∷ g ∷ h ∷ i ∷ more) in
    let ends = ends_so (bytes_eq (a ∷ b ∷ c ∷ d ∷ e ∷ f ∷ g ∷ h ∷ i ∷ (more ++ 10 ∷ [])) ok_line) (lacks 10 (a ∷ b ∷ c ∷ d ∷ e ∷ f ∷ g ∷ h ∷ i ∷ (more ++ 10 ∷ []))) (bytes_eq (a ∷ b ∷ c ∷ d ∷ e ∷ f ∷ g ∷ h ∷ i ∷ []) refused) newline begins in
    absurd (cc (ends, quiet))

pub quiet_is_none : (ls : List (List ℕ)) (r : Refusal) → All IsQuietLine ls → printed_reply (concat ls) ≡ refusal_line r → ⊥
quiet_is_none [] r quiet is = ok_is_none r is
quiet_is_none (l ∷ ls) r quiet is =
    let one : IsQuietLine l = All-head IsQuietLine l ls quiet in
    let rest = concat ls ++ ok_line in
    let parts : (l ++ concat ls) ++ ok_line ≡ one.text ++ 10 ∷ rest = append_assoc l (concat ls) ok_line ∙ ap (λ (b : List ℕ). b ++ rest) one.line ∙ append_assoc one.text (10 ∷ []) rest in
    first_piece one.text rest r (subst (λ (b : List ℕ). ends_reply b ≡ false) one.line one.quiet) (sym parts ∙ is)

-- so a table that is printed tells none
pub listing_is_none : (plan : Plan) (names : List Named) (r : Refusal) → printed_reply (listing_of plan names) ≡ refusal_line r → ⊥
listing_is_none plan names r is = let are = listings_are_lines plan names in quiet_is_none are.lines r are.quiet (sym (ap printed_reply are.joined) ∙ is)
