use Rattle.std.proofs.Common.{◌≡◌, ◌∙◌, ℕ, List, take, sym, ap, subst, Some, arith}
use Rattle.mdv_replica.specs.Below.{IsName, Key, Local, Set}
use Rattle.mdv_replica.specs.Forms.{name_of_key}
use Rattle.mdv_replica.proofs.Parts.{key_read, kind_of}
use Rattle.mdv_replica.proofs.reading.read_key.Goals as goal

local_is : (k : Key) (kind : ℕ) (name : List ℕ) → kind ≡ 0 → kind ≡ kind_of k → name ≡ name_of_key k → Local name ≡ k
local_is (Local n) kind name zero is same = ap Local same
local_is (Set n) kind name zero is same = absurd (omega arith)

set_is : (k : Key) (kind : ℕ) (name : List ℕ) → kind ≡ 1 → kind ≡ kind_of k → name ≡ name_of_key k → Set name ≡ k
set_is (Local n) kind name one is same = absurd (omega arith)
set_is (Set n) kind name one is same = ap Set same

pub returns-in_err-name-clause-spelled : goal.returns-in_err-name-clause-spelled
returns-in_err-name-clause-spelled c = λ k behind named is.
    let read = key_read k c.byte-kind.result c.byte.result c.args.rest.now c.byte-kind.new.self c.byte.new.self c.bytes-field.result.now c.bytes-field.new.self behind named c.byte-kind.ensures.spelled c.byte.ensures.spelled c.bytes-field.ensures.spelled c.bytes-field.ensures.length is in
    let found : take c.min.result c.bytes-field.result.now ≡ name_of_key k = ap (λ (n : ℕ). take n c.bytes-field.result.now) (omega arith) ∙ read.as_name in
    absurd (cc (c.in_err-name.ensures.valid.1 (subst IsName (sym found) named)))

pub returns-in-0-clause-spelled : goal.returns-in-0-clause-spelled
returns-in-0-clause-spelled c = λ k behind named is.
    let read = key_read k c.byte-kind.result c.byte.result c.args.rest.now c.byte-kind.new.self c.byte.new.self c.bytes-field.result.now c.bytes-field.new.self behind named c.byte-kind.ensures.spelled c.byte.ensures.spelled c.bytes-field.ensures.spelled c.bytes-field.ensures.length is in
    let found : take c.min.result c.bytes-field.result.now ≡ name_of_key k = ap (λ (n : ℕ). take n c.bytes-field.result.now) (omega arith) ∙ read.as_name in
    (ap (λ (x : Key). Some x) (local_is k c.byte-kind.result c.in_ok-name.name c.in-0.is read.as_kind (c.in_ok-name.ensures.value ∙ found)), read.as_rest)

pub returns-in-1-clause-spelled : goal.returns-in-1-clause-spelled
returns-in-1-clause-spelled c = λ k behind named is.
    let read = key_read k c.byte-kind.result c.byte.result c.args.rest.now c.byte-kind.new.self c.byte.new.self c.bytes-field.result.now c.bytes-field.new.self behind named c.byte-kind.ensures.spelled c.byte.ensures.spelled c.bytes-field.ensures.spelled c.bytes-field.ensures.length is in
    let found : take c.min.result c.bytes-field.result.now ≡ name_of_key k = ap (λ (n : ℕ). take n c.bytes-field.result.now) (omega arith) ∙ read.as_name in
    (ap (λ (x : Key). Some x) (set_is k c.byte-kind.result c.in_ok-name.name c.in-1.is read.as_kind (c.in_ok-name.ensures.value ∙ found)), read.as_rest)
