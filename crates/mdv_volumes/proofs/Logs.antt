-- A block's log over whatever happens to its volume.
use Rattle.std.proofs.Common.{◌≡◌, ◌⊎◌, inl, inr, ⊎_elim, ℕ, ◌+◌, ◌-◌, ◌<◌, ◌≤◌, nat_lt, true, false, List, [], ◌∷◌, ◌++◌, length, slice_index_or, refl, sym, ◌∙◌, ap, subst, arith}
use Rattle.std.proofs.lemmas.Bool.Decides.{nat_tests}
use Rattle.mdv_shelf.proofs.Blocks.{both_ways}
use Rattle.mdv_map.proofs.Copies.{among_at, among_first, among_second, lt_of_test}
use Rattle.mdv_map.proofs.Following.{answers_follow}
use Rattle.mdv_store_law.proofs.Machine.{after_more, all_more}
use Rattle.mdv_volumes.specs.Below.{Among, BlockLog, VolumeLog, AreLastIssued, is_among, only}
use Rattle.mdv_volumes.specs.Events.{VolumeEvent, Issues, Answers, Flushes, Begins, Crashes, Woke, AllGoOn, GoesOn, IsCourse, IsNoCrash, MayBeLeft, MayHappen, NoCrash, issued_to, issues_of, log_after, log_after_all}
use Rattle.mdv_volumes.proofs.Lists.{all_front, all_rest, course_front, course_rest}
use Rattle.mdv_volumes.specs.LogLaws.{BootsSettle, IssuesAloneAdd, WritesLast}

-- a block from a test on is at or behind it
from_test : (b from : ℕ) → nat_lt b from ≡ false → from ≤ b
from_test b from is = grind (arith, nat_tests)

pub goes_test : (b from : ℕ) → b < from → nat_lt b from ≡ true
goes_test b from lt = grind (arith, nat_tests)

-- what an answered write has there is among the values that a read gave
answer_among : (b : ℕ) (log : VolumeLog) (at : ℕ) (blocks : List (List ℕ)) → AreLastIssued log at blocks → is_among at (length blocks) b ≡ true → Among (log b).reads (slice_index_or blocks (b - at) [])
answer_among b log at blocks last is =
    let place = among_at at (length blocks) b is in
    let newest = last place.index place.below in
    let same : b - at ≡ place.index = (let there = place.is in omega arith) in
    subst (λ (i : ℕ). Among (log i).reads (slice_index_or blocks (b - at) [])) (sym place.is)
    (subst (λ (l : List (List ℕ)). Among l (slice_index_or blocks (b - at) [])) (sym newest.1) (inl (ap (λ (i : ℕ). slice_index_or blocks i []) same)))

pub the_one : {y z : List ℕ} → Among (z ∷ []) y → y ≡ z
the_one (inl is) = is
the_one (inr none) = absurd none

flush_read : (log : VolumeLog) (from count b : ℕ) (y : List ℕ) → Among (log_after log (Flushes from count) b).reads y → Among (log b).reads y
flush_read log from count b y = elim (both_ways (is_among from count b)) [ inl does ↦ rw does (λ read. read) | inr not ↦ rw not (λ read. read) ]

-- one event
module _ (b : ℕ) (log : VolumeLog) where
  within_step : (e : VolumeEvent) → MayHappen log e → MayBeLeft (log b) → MayBeLeft (log_after log e b)
  within_step (Issues at blocks) may within = elim (both_ways (is_among at (length blocks) b)) [
    | inl does ↦ rw does (λ x. ⊎_elim (λ new. inl new) (λ old. inr (within x old)))
    | inr not ↦ rw not within
  ]
  within_step (Answers at blocks) may within = elim (both_ways (is_among at (length blocks) b)) [
    | inl does ↦ rw does (λ x. ⊎_elim (λ new. within x (subst (λ (y : List ℕ). Among (log b).reads y) (sym new) (answer_among b log at blocks may does))) (λ none. absurd none))
    | inr not ↦ rw not within
  ]
  within_step (Flushes at count) may within = elim (both_ways (is_among at count b)) [ inl does ↦ rw does (λ x read. read) | inr not ↦ rw not within ]
  within_step (Begins from logs) may within = elim (both_ways (nat_lt b from)) [ inl does ↦ rw does within | inr not ↦ rw not (may b (from_test b from not)) ]
  within_step Crashes may within = λ x read. read
  within_step (Woke count content) may within = elim (both_ways (nat_lt b count)) [ inl does ↦ rw does (λ x read. read) | inr not ↦ rw not within ]

  leaves_step : (e : VolumeEvent) (x : List ℕ) → MayHappen log e → GoesOn b e → MayBeLeft (log b) → Among (log_after log e b).leaves x → Among (log b).leaves x ⊎ Among (issues_of b e) x
  leaves_step (Issues at blocks) x may goes within = elim (both_ways (is_among at (length blocks) b)) [
    | inl does ↦ rw does (⊎_elim (λ new. inr (inl new)) (λ old. inl old))
    | inr not ↦ rw not (λ old. inl old)
  ]
  leaves_step (Answers at blocks) x may goes within = elim (both_ways (is_among at (length blocks) b)) [ inl does ↦ rw does (λ old. inl old) | inr not ↦ rw not (λ old. inl old) ]
  leaves_step (Flushes at count) x may goes within = elim (both_ways (is_among at count b)) [ inl does ↦ rw does (λ read. inl (within x read)) | inr not ↦ rw not (λ old. inl old) ]
  leaves_step (Begins from logs) x may goes within = rw (goes_test b from goes) (λ old. inl old)
  leaves_step Crashes x may goes within = λ left. inl left
  leaves_step (Woke count content) x may goes within = elim (both_ways (nat_lt b count)) [
    | inl does ↦ rw does (⊎_elim (λ same. inl (subst (λ (y : List ℕ). Among (log b).leaves y) (sym same) (may b (lt_of_test b count does)).1)) (λ none. absurd none))
    | inr not ↦ rw not (λ old. inl old)
  ]

  reads_step : (e : VolumeEvent) (x : List ℕ) → MayHappen log e → GoesOn b e → IsNoCrash e → Among (log_after log e b).reads x → Among (log b).reads x ⊎ Among (issues_of b e) x
  reads_step (Issues at blocks) x may goes calm = elim (both_ways (is_among at (length blocks) b)) [
    | inl does ↦ rw does (⊎_elim (λ new. inr (inl new)) (λ old. inl old))
    | inr not ↦ rw not (λ old. inl old)
  ]
  reads_step (Answers at blocks) x may goes calm = elim (both_ways (is_among at (length blocks) b)) [
    | inl does ↦ rw does (⊎_elim (λ new. inl (subst (λ (y : List ℕ). Among (log b).reads y) (sym new) (answer_among b log at blocks may does))) (λ none. absurd none))
    | inr not ↦ rw not (λ old. inl old)
  ]
  reads_step (Flushes at count) x may goes calm = elim (both_ways (is_among at count b)) [ inl does ↦ rw does (λ old. inl old) | inr not ↦ rw not (λ old. inl old) ]
  reads_step (Begins from logs) x may goes calm = rw (goes_test b from goes) (λ old. inl old)
  reads_step Crashes x may goes calm = absurd calm
  reads_step (Woke count content) x may goes calm = elim (both_ways (nat_lt b count)) [
    | inl does ↦ rw does (⊎_elim (λ same. inl (subst (λ (y : List ℕ). Among (log b).reads y) (sym same) (may b (lt_of_test b count does)).0)) (λ none. absurd none))
    | inr not ↦ rw not (λ old. inl old)
  ]

  -- a block for which nothing is issued has its log
  untouched : (at : ℕ) (blocks : List (List ℕ)) (P : BlockLog → Type 0) → issues_of b (Issues at blocks) ≡ [] → P (log b) → P (log_after log (Issues at blocks) b)
  untouched at blocks P = elim (both_ways (is_among at (length blocks) b)) [ inl does ↦ rw does (λ none here. absurd (cc none)) | inr not ↦ rw not (λ none here. here) ]

  -- a block of one value keeps it
  alone_step : (e : VolumeEvent) (x : List ℕ) → MayHappen log e → GoesOn b e → IsNoCrash e → issues_of b e ≡ [] → (log b).reads ≡ x ∷ [] → (log_after log e b).reads ≡ x ∷ []
  alone_step (Issues at blocks) x may goes calm none same = untouched at blocks (λ l. l.reads ≡ x ∷ []) none same
  alone_step (Answers at blocks) x may goes calm none same = elim (both_ways (is_among at (length blocks) b)) [
    | inl does ↦ rw does (ap (λ (y : List ℕ). y ∷ []) (the_one (subst (λ (l : List (List ℕ)). Among l (slice_index_or blocks (b - at) [])) same (answer_among b log at blocks may does))))
    | inr not ↦ rw not same
  ]
  alone_step (Flushes at count) x may goes calm none same = elim (both_ways (is_among at count b)) [ inl does ↦ rw does same | inr not ↦ rw not same ]
  alone_step (Begins from logs) x may goes calm none same = rw (goes_test b from goes) same
  alone_step Crashes x may goes calm none same = absurd calm
  alone_step (Woke count content) x may goes calm none same = elim (both_ways (nat_lt b count)) [
    | inl does ↦ rw does (ap (λ (y : List ℕ). y ∷ []) (the_one (subst (λ (l : List (List ℕ)). Among l (content b)) same (may b (lt_of_test b count does)).0)))
    | inr not ↦ rw not same
  ]

  -- so does one of which a crash leaves no other, whatever crashes
  only_step : (e : VolumeEvent) (x : List ℕ) → MayHappen log e → GoesOn b e → issues_of b e ≡ [] → log b ≡ only x → log_after log e b ≡ only x
  only_step (Issues at blocks) x may goes none same = untouched at blocks (λ l. l ≡ only x) none same
  only_step (Answers at blocks) x may goes none same = elim (both_ways (is_among at (length blocks) b)) [
    | inl does ↦ rw does (ap (λ (y : List ℕ). record { reads = y ∷ []; leaves = (log b).leaves }) (the_one (subst (λ (l : BlockLog). Among l.reads (slice_index_or blocks (b - at) [])) same (answer_among b log at blocks may does)))
        ∙ ap (λ (l : BlockLog). record { reads = x ∷ []; leaves = l.leaves }) same)
    | inr not ↦ rw not same
  ]
  only_step (Flushes at count) x may goes none same = elim (both_ways (is_among at count b)) [ inl does ↦ rw does (ap (λ (l : BlockLog). record { reads = l.reads; leaves = l.reads }) same) | inr not ↦ rw not same ]
  only_step (Begins from logs) x may goes none same = rw (goes_test b from goes) same
  only_step Crashes x may goes none same = ap (λ (l : BlockLog). record { reads = l.leaves; leaves = l.leaves }) same
  only_step (Woke count content) x may goes none same = elim (both_ways (nat_lt b count)) [
    | inl does ↦ rw does (ap only (the_one (subst (λ (l : BlockLog). Among l.reads (content b)) same (may b (lt_of_test b count does)).0)))
    | inr not ↦ rw not same
  ]

-- many events
within_all : (b : ℕ) (log : VolumeLog) (es : List VolumeEvent) → IsCourse log es → MayBeLeft (log b) → MayBeLeft (log_after_all log es b)
within_all b log [] course within = within
within_all b log (e ∷ es) course within = within_all b (log_after log e) es course.1 (within_step b log e course.0 within)

leaves_all : (b : ℕ) (log : VolumeLog) (es : List VolumeEvent) (x : List ℕ) → IsCourse log es → AllGoOn b es → MayBeLeft (log b) → Among (log_after_all log es b).leaves x → Among (log b).leaves x ⊎ Among (issued_to b es) x
leaves_all b log [] x course goes within left = inl left
leaves_all b log (e ∷ es) x course goes within left =
    ⊎_elim (λ before. ⊎_elim (λ old. inl old) (λ new. inr (among_first (issues_of b e) (issued_to b es) x new)) (leaves_step b log e x course.0 goes.0 within before)) (λ since. inr (among_second (issues_of b e) (issued_to b es) x since))
    (leaves_all b (log_after log e) es x course.1 goes.1 (within_step b log e course.0 within) left)

reads_all : (b : ℕ) (log : VolumeLog) (es : List VolumeEvent) (x : List ℕ) → IsCourse log es → AllGoOn b es → NoCrash es → Among (log_after_all log es b).reads x → Among (log b).reads x ⊎ Among (issued_to b es) x
reads_all b log [] x course goes calm read = inl read
reads_all b log (e ∷ es) x course goes calm read =
    ⊎_elim (λ before. ⊎_elim (λ old. inl old) (λ new. inr (among_first (issues_of b e) (issued_to b es) x new)) (reads_step b log e x course.0 goes.0 calm.0 before)) (λ since. inr (among_second (issues_of b e) (issued_to b es) x since))
    (reads_all b (log_after log e) es x course.1 goes.1 calm.1 read)

pub issues_alone_add : IssuesAloneAdd
issues_alone_add = record { within = within_all; leaves = leaves_all; reads = reads_all }

none_first : {A : Type 0} (xs ys : List A) → xs ++ ys ≡ [] → xs ≡ []
none_first [] ys none = refl
none_first (x ∷ xs) ys none = absurd (cc none)

none_second : {A : Type 0} (xs ys : List A) → xs ++ ys ≡ [] → ys ≡ []
none_second [] ys none = none
none_second (x ∷ xs) ys none = absurd (cc none)

alone_all : (b : ℕ) (log : VolumeLog) (es : List VolumeEvent) (x : List ℕ) → IsCourse log es → AllGoOn b es → NoCrash es → issued_to b es ≡ [] → (log b).reads ≡ x ∷ [] → (log_after_all log es b).reads ≡ x ∷ []
alone_all b log [] x course goes calm none same = same
alone_all b log (e ∷ es) x course goes calm none same =
    alone_all b (log_after log e) es x course.1 goes.1 calm.1 (none_second (issues_of b e) (issued_to b es) none)
    (alone_step b log e x course.0 goes.0 calm.0 (none_first (issues_of b e) (issued_to b es) none) same)

only_all : (b : ℕ) (log : VolumeLog) (es : List VolumeEvent) (x : List ℕ) → IsCourse log es → AllGoOn b es → issued_to b es ≡ [] → log b ≡ only x → log_after_all log es b ≡ only x
only_all b log [] x course goes none same = same
only_all b log (e ∷ es) x course goes none same =
    only_all b (log_after log e) es x course.1 goes.1 (none_second (issues_of b e) (issued_to b es) none)
    (only_step b log e x course.0 goes.0 (none_first (issues_of b e) (issued_to b es) none) same)

pub boots_settle : BootsSettle
boots_settle = record {
  stays = only_all;
  woken = λ b count content log es lt course goes none. only_all b (log_after log (Woke count content)) es (content b) course.1 goes none (rw (goes_test b count lt));
}

answered_first : (log : VolumeLog) (at : ℕ) (blocks : List (List ℕ)) (k : ℕ) → k < length blocks → (log_after log (Answers at blocks) (at + k)).reads ≡ slice_index_or blocks k [] ∷ []
answered_first log at blocks k lt = answers_follow.one at blocks log k lt

module _ (log : VolumeLog) (at : ℕ) (blocks : List (List ℕ)) (es : List VolumeEvent) (k : ℕ) (lt : k < length blocks) (course : IsCourse log (Answers at blocks ∷ es)) (goes : AllGoOn (at + k) es) (calm : NoCrash es) where
  value : List ℕ
  value = slice_index_or blocks k []

  pub answered_alone : issued_to (at + k) es ≡ [] → (log_after_all log (Answers at blocks ∷ es) (at + k)).reads ≡ slice_index_or blocks k [] ∷ []
  answered_alone none = alone_all (at + k) (log_after log (Answers at blocks)) es (slice_index_or blocks k []) course.1 goes calm none (answered_first log at blocks k lt)

  -- a read gives it, or what was issued later
  pub answered_reads : (x : List ℕ) → Among (log_after_all log (Answers at blocks ∷ es) (at + k)).reads x → (x ≡ slice_index_or blocks k []) ⊎ Among (issued_to (at + k) es) x
  answered_reads x read = ⊎_elim (λ one. inl (the_one (subst (λ (l : List (List ℕ)). Among l x) (answered_first log at blocks k lt) one))) (λ since. inr since)
      (reads_all (at + k) (log_after log (Answers at blocks)) es x course.1 goes calm read)

flushed_one : (log : VolumeLog) (from count b : ℕ) (x : List ℕ) → is_among from count b ≡ true → (log b).reads ≡ x ∷ [] → log_after log (Flushes from count) b ≡ only x
flushed_one log from count b x is same = rw is (ap (λ (l : List (List ℕ)). record { reads = l; leaves = l }) same)

flushed_reads : (log : VolumeLog) (from count b : ℕ) → is_among from count b ≡ true → (log_after log (Flushes from count) b).leaves ≡ (log b).reads
flushed_reads log from count b is = rw is

issued_more : (b : ℕ) (es later : List VolumeEvent) (x : List ℕ) → Among (issued_to b es ++ issued_to b later) x → Among (issued_to b (es ++ later)) x
issued_more b es later x among = subst (λ (l : List (List ℕ)). Among l x) (sym (all_more (issues_of b) es later)) among

pub writes_last : WritesLast
writes_last = record {
  answered = λ log at blocks es k lt course goes calm none. answered_alone log at blocks es k lt course goes calm none;
  flushed = λ log at blocks es from count k lt course goes calm none is.
      subst (λ (l : VolumeLog). l (at + k) ≡ only (slice_index_or blocks k [])) (sym (after_more log_after log (Answers at blocks ∷ es) (Flushes from count ∷ [])))
      (flushed_one (log_after_all log (Answers at blocks ∷ es)) from count (at + k) (slice_index_or blocks k []) is (answered_alone log at blocks es k lt course goes calm none));
  acknowledged = λ log at blocks es later from count k x lt course goes calm is may.
      let first = course_front log_after MayHappen log (Answers at blocks ∷ es) (Flushes from count ∷ later) course in
      let second = course_rest log_after MayHappen log (Answers at blocks ∷ es) (Flushes from count ∷ later) course in
      let mid : VolumeLog = log_after_all log (Answers at blocks ∷ es) in
      let on : VolumeLog = log_after mid (Flushes from count) in
      let b : ℕ = at + k in
      let same = flushed_reads mid from count b is in
      let within : MayBeLeft (on b) = (λ y read. subst (λ (l : List (List ℕ)). Among l y) (sym same) (flush_read mid from count b y read)) in
      let goes_first = all_front (GoesOn b) es later goes in
      let goes_second = all_rest (GoesOn b) es later goes in
      let left = ⊎_elim (λ read. within_all b on later second.1 within x (subst (λ (l : VolumeLog). Among (l b).reads x) (after_more log_after log (Answers at blocks ∷ es) (Flushes from count ∷ later)) read))
      (λ left. subst (λ (l : VolumeLog). Among (l b).leaves x) (after_more log_after log (Answers at blocks ∷ es) (Flushes from count ∷ later)) left) may in
      ⊎_elim (λ before. ⊎_elim (λ one. inl one) (λ since. inr (issued_more b es later x (among_first (issued_to b es) (issued_to b later) x since)))
      (answered_reads log at blocks es k lt first goes_first calm x (subst (λ (l : List (List ℕ)). Among l x) same before)))
      (λ since. inr (issued_more b es later x (among_second (issued_to b es) (issued_to b later) x since)))
      (leaves_all b on later x second.1 goes_second within left);
}
