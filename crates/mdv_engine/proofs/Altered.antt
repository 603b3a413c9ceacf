-- The change that a line asks, and the table that it makes of the open one.
use Rattle.std.proofs.Common.{◌≡◌, inl, inr, ◌<◌, Bool, false, true, List, [], ◌∷◌, map, Option, Some, None, All, refl, sym, ap, ◌∙◌, subst, arith}
use Rattle.std.proofs.lemmas.Bool.{and_parts}
use Rattle.std.proofs.lemmas.Bool.Decides.{nat_tests}
use Rattle.std.proofs.lemmas.List.Elements.{All-cons, All-nil}
use Rattle.std.proofs.lemmas.Option.{same_Some}
use Rattle.std.specs.List.{list_all}
use Rattle.std.specs.Option.{is_none}
use Rattle.std.specs.Prelude.{◌&&◌, nat_lt}
use Rattle.mdv_base.specs.Order.{first_refusal}
use Rattle.mdv_base.specs.declared.refusal.Refusal.TheVariants.{NoDatabase}
use Rattle.mdv_change.specs.Apply.{IsMade}
use Rattle.mdv_change.specs.declared.change.Change.TheVariants.{AddRow, MakeStripe}
use Rattle.mdv_change.specs.declared.change.Change.TheVariants as changes
use Rattle.mdv_keeping.specs.Built.{IsBuilt, IsOfSlices, IsSlice}
use Rattle.mdv_keeping.specs.Keeping.{IsStepOf}
use Rattle.mdv_keeping.specs.Refused.{cause_with, refusal_in}
use Rattle.mdv_remake.specs.Below.{Named as Component, NamedSlice as Slice, NamedVolume as Volume}
use Rattle.mdv_remake.specs.Asked.{base_of, clearing_of, is_few, is_short_row, row_of}
use Rattle.mdv_store_law.specs.Changes.{IsAsked}
use Rattle.mdv_tab.specs.declared.entry.Entry.TheVariants.{Stripe}
use Rattle.mdv_tab.specs.declared.entry.Row.{Row}
use Rattle.mdv_words.specs.Line.{IsInForm, is_of_slices, is_slice}
use Rattle.mdv_words.specs.declared.command.Alteration.TheVariants.{Attach, Clear, ClearAll, Make}
use Rattle.mdv_engine_law.specs.Altering.{Alters, change_of, table_where}
use Rattle.mdv_engine_law.specs.Refusals.{held_of_alteration}
use Rattle.mdv_engine.specs.Below.{Alter, Alteration, BadLine, Host, Memory, Opened, OutOfMemory, PlanChange, Refusal, Table}
use Rattle.mdv_engine.specs.Engine.{HasChangeCause, IsNextTable}
use Rattle.mdv_engine.proofs.Altering.{change_against, of_open}

-- what passes a test becomes such a one
all_made : {A B : Type 0} (test : A → Bool) (f : A → B) (P : B → Type 0) → ((a : A) → test a ≡ true → P (f a)) → (xs : List A) → list_all test xs ≡ true → All P (map f xs)
all_made test f P each [] is = All-nil P
all_made test f P each (x ∷ xs) is = (let both = and_parts (test x) (list_all test xs) is in All-cons P (f x) (map f xs) (each x both.0) (all_made test f P each xs both.1))

slice_made : (c : Component) → is_slice c ≡ true → IsSlice (base_of c)
slice_made (Slice s) is = tt
slice_made (Volume v) is = absurd (cc (is))

row_made : (row : Row) → is_of_slices row ≡ true → IsOfSlices (row_of row)
row_made row is = all_made is_slice base_of IsSlice slice_made row.components is

none_is : {A : Type 0} (o : Option A) → is_none o ≡ true → o ≡ None
none_is None is = refl
none_is (Some a) is = absurd (cc (is))

below : (n : _) → nat_lt n 8192 ≡ true → n < 8192
below n is = grind (arith, nat_tests)

-- each that is in form asks one that the program makes
pub record AsksFor (alteration : Alteration) : Type 0 where
  pub change : PlanChange
  pub asks : Alters alteration change
  pub asked : IsAsked change
  pub built : IsBuilt change

pub asks_for : (alteration : Alteration) → IsInForm (Alter alteration) → AsksFor alteration
asks_for (Make (Stripe name rows spares)) form =
    let local = and_parts (is_none name.set) (is_none spares && list_all is_of_slices rows) form.0 in
    let made = and_parts (is_none spares) (list_all is_of_slices rows) local.1 in
    let small = and_parts (nat_lt name.volume.0 8192) (is_few rows && list_all is_short_row rows) form.1 in
    record { change = MakeStripe name.volume (map row_of rows) spares; asks = refl; asked = tt; built = (below name.volume.0 small.0, none_is spares made.0, all_made is_of_slices row_of IsOfSlices row_made rows made.1) }
asks_for (Make other) form = absurd (let is = form.0 in cc (is))
asks_for (Attach volume row) form = record { change = AddRow volume (row_of row); asks = refl; asked = tt; built = row_made row form.0 }
asks_for (Clear names false) form = record { change = clearing_of names false; asks = refl; asked = tt; built = tt }
asks_for (Clear names true) form = record { change = clearing_of names true; asks = refl; asked = tt; built = tt }
asks_for ClearAll form = record { change = changes.ClearAll; asks = refl; asked = tt; built = tt }

module _ (alteration : Alteration) (form : IsInForm (Alter alteration)) (change : PlanChange) (asks : Alters alteration change) where
  same : (asks_for alteration form).change ≡ change
  same = same_Some (asks_for alteration form).change change (sym (asks_for alteration form).asks ∙ asks)

  pub is_built : IsBuilt change
  is_built = subst IsBuilt same (asks_for alteration form).built

  pub is_asked : IsAsked change
  is_asked = subst IsAsked same (asks_for alteration form).asked

-- a change of the open table
module _ (host : Host) (memory : Memory) (o : Opened) (opened : memory.opened ≡ Some o) (table : Table) (table_is : table ≡ o.table) (alteration : Alteration) (change : PlanChange) (asks : Alters alteration change) where
  pub is_next : IsAsked change → (next : Table) → IsMade host.drives host.site.drives change table next → IsStepOf host.drives change table next → IsNextTable host memory alteration next
  is_next asked next made step =
      let here : IsMade host.drives host.site.drives change o.table next = subst (λ (t : Table). IsMade host.drives host.site.drives change t next) table_is made in
      let steps : IsStepOf host.drives change o.table next = subst (λ (t : Table). IsStepOf host.drives change t next) table_is step in
      record {
        o = o;
        opened = opened;
        change = change;
        asks = asks;
        asked = asked;
        allowed = (λ i. cause_with (here.allowed i) (steps.plain i));
        is = here.after ∙ sym (ap (table_where host.drives o.table) asks);
        step = steps;
      }

  -- it is refused
  pub is_refused : (r : Refusal) → refusal_in host.drives host.site.drives table change ≡ Some r → HasChangeCause host memory alteration r
  is_refused r is =
      inl (of_open host memory.opened o alteration change (Some r) opened asks (change_against host o change r (subst (λ (t : Table). refusal_in host.drives host.site.drives t change ≡ Some r) table_is is)))

module _ (host : Host) (memory : Memory) (alteration : Alteration) where
  -- none is open
  pub none_open : IsInForm (Alter alteration) → memory.opened ≡ None → HasChangeCause host memory alteration NoDatabase
  none_open form none = (let asks = (asks_for alteration form).asks in inl (λ i. first_refusal (held_of_alteration host (none i) (asks i))))

  -- an entry that asks none
  pub none_asked : change_of alteration ≡ None → HasChangeCause host memory alteration BadLine
  none_asked none = inl (ap (λ (change : Option PlanChange). first_refusal (held_of_alteration host memory.opened change)) none)

  pub may_want : (o : Opened) → memory.opened ≡ Some o → HasChangeCause host memory alteration OutOfMemory
  may_want o opened = inr (o, opened, refl)
