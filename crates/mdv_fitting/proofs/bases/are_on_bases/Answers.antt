use Rattle.std.proofs.Common.{List, Result, Ok, Err, IfOk, sym, ◌∙◌, ap}
use Rattle.std.specs.List.{list_all}
use Rattle.mdv_fitting.specs.Below.{OneVolume}
use Rattle.mdv_fitting.specs.Starts.{is_joined_in}
use Rattle.mdv_fitting.proofs.Basing.{bases_are, bases_count, bases_join, one_size}
use Rattle.mdv_fitting.proofs.bases.are_on_bases.Goals as goal

-- what holds of each answer that is one holds of it too
if_ok : {T E : Type 0} (r : Result T E) (P Q : T → Type 0) → ((x : T) → P x → Q x) → IfOk r P → IfOk r Q
if_ok (Ok x) P Q step is = step x is
if_ok (Err e) P Q step is = tt

pub returns-then-not-are_counted : goal.returns-then-not-are_counted
returns-then-not-are_counted c =
    (λ never. cc (never), λ on. let never = sym (bases_count c.args.geometry.now c.args.plan.now on) ∙ sym c.are_counted.ensures ∙ c.if-not-are_counted.true in cc (never))

pub returns-then-not-branch : goal.returns-then-not-branch
returns-then-not-branch c =
    let told = c.in_ok-are_joined.ensures ∙ ap (λ (l : List OneVolume). list_all (is_joined_in l) l) c.as_slice.ensures.value in
    (λ never. cc (never), λ on. let never = sym (bases_join c.args.geometry.now c.args.plan.now c.requires.sound on) ∙ sym told ∙ c.if-not-branch.true in cc (never))

pub are_apart-requires-clause-sizes : goal.are_apart-requires-clause-sizes
are_apart-requires-clause-sizes c =
    let told = c.in_ok-are_joined.ensures ∙ ap (λ (l : List OneVolume). list_all (is_joined_in l) l) c.as_slice.ensures.value in
    one_size c.args.geometry.now c.args.plan.now c.requires.sound (sym c.are_counted.ensures ∙ c.if-not-are_counted.false) (sym told ∙ c.if-not-branch.false)

pub returns : goal.returns
returns c =
    let g = c.args.geometry.now in
    let p = c.args.plan.now in
    let told = c.in_ok-are_joined.ensures ∙ ap (λ (l : List OneVolume). list_all (is_joined_in l) l) c.as_slice.ensures.value in
    if_ok c.are_apart.result _ _ (λ answer is. bases_are g p answer c.requires.sound (sym c.are_counted.ensures ∙ c.if-not-are_counted.false) (sym told ∙ c.if-not-branch.false) is) c.are_apart.ensures
