-- The first cause of a list that holds.
use Rattle.std.proofs.Common.{◌≡◌, Bool, true, false, refl, sym, ◌∙◌, ap, subst, List, [], ◌∷◌, ◌++◌, Option, None, Some, cond}
use Rattle.std.specs.Option.{option_or, is_some}
use Rattle.mdv_components.specs.declared.cause.Cause.{Cause}
use Rattle.mdv_components.specs.declared.cause.Cause.TheVariants.{NoSuchVolume, NoSuchPool, NoSuchSlice, NameTaken, WrongKind, WrongState, LastCopy, TooFew, TooMany, BadInterlace}
use Rattle.mdv_components.specs.Causes.{first_of, order, name_causes, form_causes, use_causes, room_causes}

-- the first of two lists is the first of the one, or else of the other
first_of-append : (holds : Cause → Bool) (front behind : List Cause) → first_of holds (front ++ behind) ≡ option_or (first_of holds front) (first_of holds behind)
first_of-append holds [] behind = refl
first_of-append holds (c ∷ front) behind =
    elim (holds c) as (λ b. cond b (Some c) (first_of holds (front ++ behind)) ≡ option_or (cond b (Some c) (first_of holds front)) (first_of holds behind)) [
      | true ↦ refl
      | false ↦ first_of-append holds front behind
    ]

some_first : {A : Type 0} (o rest : Option A) → is_some o ≡ true → o ≡ option_or o rest
some_first None rest is = cc
some_first (Some x) rest is = refl

none_first : {A : Type 0} (o rest : Option A) → is_some o ≡ false → rest ≡ option_or o rest
none_first None rest is = refl
none_first (Some x) rest is = cc

pub is_none : {A : Type 0} (o : Option A) → is_some o ≡ false → o ≡ None
is_none None is = refl
is_none (Some x) is = cc

or_first : {A : Type 0} (o rest : Option A) → option_or o rest ≡ None → o ≡ None
or_first None rest is = refl
or_first (Some x) rest is = is

or_rest : {A : Type 0} (o rest : Option A) → option_or o rest ≡ None → rest ≡ None
or_rest None rest is = is
or_rest (Some x) rest is = cc

-- the causes of names, of the form, of uses and of room, in their order
in_order : (holds : Cause → Bool) → first_of holds order ≡ option_or (first_of holds name_causes) (option_or (first_of holds form_causes) (option_or (first_of holds use_causes) (first_of holds room_causes)))
in_order holds =
    let uses = first_of-append holds use_causes room_causes in
    let forms = first_of-append holds form_causes (use_causes ++ room_causes) in
    let names = first_of-append holds name_causes (form_causes ++ (use_causes ++ room_causes)) in
    names ∙ ap (option_or (first_of holds name_causes)) (forms ∙ ap (option_or (first_of holds form_causes)) uses)

-- which part of the order tells
pub by_name : (holds : Cause → Bool) (name : Option Cause) → name ≡ first_of holds name_causes → is_some name ≡ true → name ≡ first_of holds order
by_name holds name is some =
    let told : is_some (first_of holds name_causes) ≡ true = subst (λ (o : Option Cause). is_some o ≡ true) is some in
    is ∙ some_first (first_of holds name_causes) (option_or (first_of holds form_causes) (option_or (first_of holds use_causes) (first_of holds room_causes))) told ∙ sym (in_order holds)

past_name : (holds : Cause → Bool) (name : Option Cause) → name ≡ first_of holds name_causes → is_some name ≡ false → option_or (first_of holds form_causes) (option_or (first_of holds use_causes) (first_of holds room_causes)) ≡ first_of holds order
past_name holds name is none =
    let untold : is_some (first_of holds name_causes) ≡ false = subst (λ (o : Option Cause). is_some o ≡ false) is none in
    none_first (first_of holds name_causes) (option_or (first_of holds form_causes) (option_or (first_of holds use_causes) (first_of holds room_causes))) untold ∙ sym (in_order holds)

pub by_form : (holds : Cause → Bool) (name form : Option Cause) → name ≡ first_of holds name_causes → is_some name ≡ false → form ≡ first_of holds form_causes → is_some form ≡ true → form ≡ first_of holds order
by_form holds name form is none form_is some =
    let told : is_some (first_of holds form_causes) ≡ true = subst (λ (o : Option Cause). is_some o ≡ true) form_is some in
    form_is ∙ some_first (first_of holds form_causes) (option_or (first_of holds use_causes) (first_of holds room_causes)) told ∙ past_name holds name is none

past_form : (holds : Cause → Bool) (name form : Option Cause) → name ≡ first_of holds name_causes → is_some name ≡ false → form ≡ first_of holds form_causes → is_some form ≡ false → option_or (first_of holds use_causes) (first_of holds room_causes) ≡ first_of holds order
past_form holds name form is none form_is form_none =
    let untold : is_some (first_of holds form_causes) ≡ false = subst (λ (o : Option Cause). is_some o ≡ false) form_is form_none in
    none_first (first_of holds form_causes) (option_or (first_of holds use_causes) (first_of holds room_causes)) untold ∙ past_name holds name is none

pub by_use : (holds : Cause → Bool) (name form used : Option Cause) → name ≡ first_of holds name_causes → is_some name ≡ false → form ≡ first_of holds form_causes → is_some form ≡ false → used ≡ first_of holds use_causes → is_some used ≡ true → used ≡ first_of holds order
by_use holds name form used is none form_is form_none used_is some =
    let told : is_some (first_of holds use_causes) ≡ true = subst (λ (o : Option Cause). is_some o ≡ true) used_is some in
    used_is ∙ some_first (first_of holds use_causes) (first_of holds room_causes) told ∙ past_form holds name form is none form_is form_none

pub by_room : (holds : Cause → Bool) (name form used : Option Cause) → name ≡ first_of holds name_causes → is_some name ≡ false → form ≡ first_of holds form_causes → is_some form ≡ false → used ≡ first_of holds use_causes → is_some used ≡ false → first_of holds room_causes ≡ first_of holds order
by_room holds name form used is none form_is form_none used_is used_none =
    let untold : is_some (first_of holds use_causes) ≡ false = subst (λ (o : Option Cause). is_some o ≡ false) used_is used_none in
    none_first (first_of holds use_causes) (first_of holds room_causes) untold ∙ past_form holds name form is none form_is form_none

-- where none of a list is told, the first of it doesn't hold, nor any other
fails : (holds : Cause → Bool) (c : Cause) (causes : List Cause) → first_of holds (c ∷ causes) ≡ None → (holds c ≡ false) × (first_of holds causes ≡ None)
fails holds c causes none =
    elim (holds c) as (λ b. cond b (Some c) (first_of holds causes) ≡ None → (b ≡ false) × (first_of holds causes ≡ None)) [
      | true ↦ λ it. cc
      | false ↦ λ it. (refl, it)
    ] none

pub record IsFormed (holds : Cause → Bool) : Type 0 where
  pub many : holds TooFew ≡ false
  pub few : holds TooMany ≡ false
  pub interlace : holds BadInterlace ≡ false

pub form_holds : (holds : Cause → Bool) → first_of holds form_causes ≡ None → IsFormed holds
form_holds holds none =
    let first = fails holds TooFew (TooMany ∷ BadInterlace ∷ []) none in
    let second = fails holds TooMany (BadInterlace ∷ []) first.1 in
    let third = fails holds BadInterlace [] second.1 in
    record { many = first.0; few = second.0; interlace = third.0 }

-- where nothing refuses, the form holds and the name is free
pub order_formed : (holds : Cause → Bool) → first_of holds order ≡ None → IsFormed holds
order_formed holds none = form_holds holds (or_first _ _ (or_rest _ _ (sym (in_order holds) ∙ none)))

pub name_free : (holds : Cause → Bool) → first_of holds order ≡ None → holds NameTaken ≡ false
name_free holds none =
    let names : first_of holds name_causes ≡ None = or_first _ _ (sym (in_order holds) ∙ none) in
    let one = fails holds NoSuchVolume (NoSuchPool ∷ NoSuchSlice ∷ NameTaken ∷ WrongKind ∷ WrongState ∷ LastCopy ∷ []) names in
    let two = fails holds NoSuchPool (NoSuchSlice ∷ NameTaken ∷ WrongKind ∷ WrongState ∷ LastCopy ∷ []) one.1 in
    let three = fails holds NoSuchSlice (NameTaken ∷ WrongKind ∷ WrongState ∷ LastCopy ∷ []) two.1 in
    (fails holds NameTaken (WrongKind ∷ WrongState ∷ LastCopy ∷ []) three.1).0
