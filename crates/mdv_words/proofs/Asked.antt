-- What a line of the grammar asks keeps the numbers of replicas and of blocks.
use Rattle.std.specs.Option.{option_or}
use Rattle.std.proofs.Common.{ℕ, ◌≤◌, Bool, true, false, cond, Option, None, Some, sym, subst, List, [], ◌∷◌, codes, length, arith}
use Rattle.std.specs.Prelude.{IfSome, nat_le}
use Rattle.mdv_name.specs.declared.volume.VolName.{VolName}
use Rattle.mdv_parts.specs.declared.component.Component.{Component}
use Rattle.mdv_base.specs.declared.drive.SliceName.{SliceName}
use Rattle.mdv_parts.specs.declared.options.ReplicaOptions.{ReplicaOptions}
use Rattle.mdv_parts.specs.declared.part.Part.{Part}
use Rattle.mdv_parts.specs.declared.part.Part.TheVariants.{Pool, Replicas, Slice, Volume}
use Rattle.mdv_parts.specs.Runs.{behind, component_of, front, pool_of, slice_of}
use Rattle.mdv_tab.specs.Form.{entry_of}
use Rattle.mdv_tab.specs.Options.{late_interlace, on_some}
use Rattle.mdv_command.specs.declared.command.Command.{Command}
use Rattle.mdv_command.specs.declared.command.Pools.{Pools}
use Rattle.mdv_command.specs.declared.given.Given.{Given}
use Rattle.mdv_command.specs.Given.{count_given, count_of, first_given, has, interlace_given, length_given, length_of, only}
use Rattle.mdv_command.specs.declared.given.Given.TheVariants.{Count, Length}
use Rattle.mdv_command.specs.Options.{AreGiven, Bare, IsGiven, Spelled, Valued, joined}
use Rattle.mdv_command.specs.Spares.{added_spares_of, deleted_spares_of, enabled_spares_of, listed_pools_of, metahs_of, pools_of, replaced_spare_of}
use Rattle.mdv_command.specs.Volumes.{added_of, all_cleared_of, all_made_of, all_of, deleted_of, ends_attach, enabled_of, listed_of, made_of, metaclear_of, metadb_of, metainit_of, metareplace_of, metattach_of, named_of, only_size, replaced_of, sized_of, some_of, some_slices, submirror_of}
use Rattle.mdv_grammar.specs.declared.sets.SetForm.{SetForm}
use Rattle.mdv_grammar.specs.declared.sets.SetForm.TheVariants.{Show, Change}
use Rattle.mdv_grammar.specs.declared.verb.Head.{Head}
use Rattle.mdv_grammar.specs.declared.verb.Head.TheVariants.{OfVerb, OfSets, OfRead, OfWrite, OfFill, OfIdle}
use Rattle.mdv_grammar.specs.declared.verb.Verb.{Verb}
use Rattle.mdv_grammar.specs.declared.verb.Verb.TheVariants.{Metadb, Metainit, Metaclear, Metattach, Metadetach, Metaoffline, Metaonline, Metareplace, Metahs, Metastat}
use Rattle.mdv_grammar.specs.Line.{AsksBehind, IsCommand}
use Rattle.mdv_grammar.specs.Operands.{command_of, plain_of}
use Rattle.mdv_grammar.specs.Sets.{AsksSets}
use Rattle.mdv_words.specs.Line.{IsCount, IsLength}
use Rattle.mdv_words.proofs.Entries.{if_either, if_then}

abbrev pub Keeps : Command → Type 0
Keeps (Command.AddReplicas slices options force) = (1 ≤ length slices) × IfSome options.count IsCount × IfSome options.blocks IsLength
Keeps (Command.DeleteReplicas slices force) = 1 ≤ length slices
Keeps (Command.Read volume at count) = 1 ≤ count
Keeps (Command.Fill volume at count byte) = 1 ≤ count
Keeps _ = Unit {0}

abbrev Holds : Option Command → Type 0
Holds command = IfSome command Keeps

either : (b : Bool) (x y : Option Command) → Holds x → Holds y → Holds (cond b x y)
either b x y first second = if_either Keeps b x y first second

-- where the test is passed, and nothing else
passed : (b : Bool) (x : Option Command) → Holds x → Holds (cond b x None)
passed b x holds = either b x None holds tt

behind_it : {B : Type 0} (o : Option B) (next : B → Option Command) → ((b : B) → Holds (next b)) → Holds (on_some o next)
behind_it o next holds = if_then Keeps o next holds

either_given : (P : ℕ → Type 0) (a b : Option ℕ) → IfSome a P → IfSome b P → IfSome (option_or a b) P
either_given P None b one other = other
either_given P (Some n) b one other = one

-- what each value of one kind keeps, the first of them keeps
first_keeps : (P : ℕ → Type 0) (value : Given → Option ℕ) (ss : List Spelled) (gs : List Given) → ((s : Spelled) (g : Given) → IsGiven s g → IfSome (value g) P) → AreGiven ss gs → IfSome (first_given value gs) P
first_keeps P value [] [] each are = tt
first_keeps P value [] (g ∷ gs) each are = absurd are
first_keeps P value (s ∷ ss) [] each are = absurd are
first_keeps P value (s ∷ ss) (g ∷ gs) each are = either_given P (value g) (first_given value gs) (each s g are.0) (first_keeps P value ss gs each are.1)

given_count : (s : Spelled) (g : Given) → IsGiven s g → IfSome (count_of g) IsCount
given_count (Bare b) g is = subst (λ (x : Given). IfSome (count_of x) IsCount) (sym is) tt
given_count (Valued b text) (Count n) is = (is.2, is.3)
given_count (Valued b text) g is = tt

given_length : (s : Spelled) (g : Given) → IsGiven s g → IfSome (length_of g) IsLength
given_length (Bare b) g is = subst (λ (x : Given). IfSome (length_of x) IsLength) (sym is) tt
given_length (Valued b text) (Length n) is = (is.2, is.3)
given_length (Valued b text) g is = tt

-- the numbers that the options of a line give are in their bounds
abbrev AreBounded : List Given → Type 0
AreBounded gs = IfSome (count_given gs) IsCount × IfSome (length_given gs) IsLength

bounded : (ss : List Spelled) (gs : List Given) → AreGiven ss gs → AreBounded gs
bounded ss gs are = (first_keeps IsCount count_of ss gs given_count are, first_keeps IsLength length_of ss gs given_length are)

on_slices : (options : ReplicaOptions) (force : Bool) (slices : List SliceName) (ps : List Part) → IfSome options.count IsCount → IfSome options.blocks IsLength → Holds (on_some (some_of slices ps) (λ ss. Some (Command.AddReplicas ss options force)))
on_slices options force [] ps count blocks = tt
on_slices options force (s ∷ ss) [] count blocks = (omega arith, count, blocks)
on_slices options force (s ∷ ss) (p ∷ ps) count blocks = tt

added_keeps : (gs : List Given) (ps : List Part) → AreBounded gs → Holds (added_of gs ps)
added_keeps gs (Replicas n ∷ []) is = passed (only (codes "af") gs) (Some (Command.AddListed n (has 102 gs))) tt
added_keeps gs ps is = on_slices (record { count = count_given gs; blocks = length_given gs }) (has 102 gs) (front slice_of ps) (behind slice_of ps) is.0 is.1

deleted_keeps : (force : Bool) (slices : List SliceName) (ps : List Part) → Holds (on_some (some_of slices ps) (λ ss. Some (Command.DeleteReplicas ss force)))
deleted_keeps force [] ps = tt
deleted_keeps force (s ∷ ss) [] = omega arith
deleted_keeps force (s ∷ ss) (p ∷ ps) = tt

listed_keeps : (gs : List Given) (set : Option (List ℕ)) (ps : List Part) → Holds (listed_of gs set ps)
listed_keeps gs set [] = tt
listed_keeps gs set (p ∷ ps) = tt

metadb_keeps : (gs : List Given) (set : Option (List ℕ)) (ps : List Part) → AreBounded gs → Holds (metadb_of gs set ps)
metadb_keeps gs set ps is =
    either (has 97 gs) _ _ (passed (only (codes "afcl") gs) (added_of gs ps) (added_keeps gs ps is)) (
    either (has 100 gs) _ _ (passed (only (codes "df") gs) (deleted_of gs ps) (deleted_keeps (has 102 gs) (front slice_of ps) (behind slice_of ps))) (
    passed (only (codes "is") gs) (listed_of gs set ps) (listed_keeps gs set ps)))

made_keeps : (force : Bool) (set : Option (List ℕ)) (ps : List Part) → Holds (made_of force set ps)
made_keeps force set (Volume v ∷ []) = tt
made_keeps force set (Pool p ∷ []) = tt
made_keeps force set (Replicas n ∷ ps) = tt
made_keeps force set ps = behind_it (entry_of set ps) (λ e. Some (Command.Make e force)) (λ e. tt)

all_made_keeps : (ps : List Part) → Holds (all_made_of ps)
all_made_keeps [] = tt
all_made_keeps (p ∷ ps) = tt

metainit_keeps : (gs : List Given) (set : Option (List ℕ)) (ps : List Part) → Holds (metainit_of gs set ps)
metainit_keeps gs set ps = either (has 97 gs) _ _ (passed (only (codes "a") gs) (all_made_of ps) (all_made_keeps ps)) (made_keeps (has 102 gs) set ps)

all_cleared_keeps : (set : Option (List ℕ)) (ps : List Part) → Holds (all_cleared_of set ps)
all_cleared_keeps set [] = tt
all_cleared_keeps set (p ∷ ps) = tt

metaclear_keeps : (gs : List Given) (set : Option (List ℕ)) (ps : List Part) → Holds (metaclear_of gs set ps)
metaclear_keeps gs set ps =
    either (has 97 gs) _ _ (passed (only (codes "afs") gs) (all_cleared_of set ps) (all_cleared_keeps set ps)) (behind_it (some_of (front named_of ps) (behind named_of ps)) _ (λ ns. tt))

attached_keeps : (name : VolName) (cs : List Component) (read : Option (Option ℕ × List Part)) → Holds (ends_attach name cs read)
attached_keeps name [] read = tt
attached_keeps name (c ∷ cs) None = tt
attached_keeps name (c ∷ cs) (Some (interlace, [])) = tt
attached_keeps name (c ∷ cs) (Some (interlace, p ∷ ps)) = tt

sized_keeps : (name : VolName) (gs : List Given) (ps : List Part) (size : Option ℕ) → Holds (sized_of name gs ps size)
sized_keeps name gs ps None = attached_keeps name (front component_of ps) (late_interlace (interlace_given gs) (behind component_of ps))
sized_keeps name gs ps (Some blocks) = passed (only (codes "s") gs) _ (passed (nat_le 1 blocks) (Some (Command.Grow name blocks)) tt)

metattach_keeps : (gs : List Given) (set : Option (List ℕ)) (ps : List Part) → Holds (metattach_of gs set ps)
metattach_keeps gs set (Volume v ∷ ps) = sized_keeps (record { set = set; volume = v }) gs ps (only_size ps)
metattach_keeps gs set _ = tt

enabled_keeps : (set : Option (List ℕ)) (ps : List Part) → Holds (enabled_of set ps)
enabled_keeps set (Volume v ∷ p ∷ []) = behind_it (component_of p) _ (λ c. tt)
enabled_keeps set _ = tt

replaced_keeps : (set : Option (List ℕ)) (ps : List Part) → Holds (replaced_of set ps)
replaced_keeps set (Volume v ∷ p ∷ q ∷ []) = behind_it (component_of p) _ (λ old. behind_it (component_of q) _ (λ new. tt))
replaced_keeps set _ = tt

metareplace_keeps : (gs : List Given) (set : Option (List ℕ)) (ps : List Part) → Holds (metareplace_of gs set ps)
metareplace_keeps gs set ps = either (has 101 gs) (enabled_of set ps) (replaced_of set ps) (enabled_keeps set ps) (replaced_keeps set ps)

added_spares_keep : (set : Option (List ℕ)) (read : Option (Pools × List Part)) → Holds (added_spares_of set read)
added_spares_keep set None = tt
added_spares_keep set (Some (pools, ps)) = behind_it (some_slices ps) _ (λ ss. tt)

deleted_spares_keep : (set : Option (List ℕ)) (read : Option (Pools × List Part)) → Holds (deleted_spares_of set read)
deleted_spares_keep set None = tt
deleted_spares_keep set (Some (pools, ps)) = behind_it (some_slices ps) _ (λ ss. tt)

replaced_spare_keeps : (set : Option (List ℕ)) (read : Option (Pools × List Part)) → Holds (replaced_spare_of set read)
replaced_spare_keeps set (Some (pools, Slice old ∷ Slice new ∷ [])) = tt
replaced_spare_keeps set _ = tt

enabled_spares_keep : (set : Option (List ℕ)) (all : Bool) (ps : List Part) → Holds (enabled_spares_of set all ps)
enabled_spares_keep set true ps = tt
enabled_spares_keep set false ps = behind_it (some_slices ps) _ (λ ss. tt)

listed_pools_keep : (set : Option (List ℕ)) (all : Bool) (ps : List Part) → Holds (listed_pools_of set all ps)
listed_pools_keep set true ps = tt
listed_pools_keep set false ps = behind_it (all_of (front pool_of ps) (behind pool_of ps)) _ (λ pools. tt)

metahs_keeps : (gs : List Given) (set : Option (List ℕ)) (all : Bool) (ps : List Part) → Holds (metahs_of gs set all ps)
metahs_keeps gs set all ps =
    either (has 97 gs) _ _ (passed (only (codes "as") gs) _ (added_spares_keep set (pools_of all ps))) (
    either (has 100 gs) _ _ (passed (only (codes "ds") gs) _ (deleted_spares_keep set (pools_of all ps))) (
    either (has 114 gs) _ _ (passed (only (codes "rs") gs) _ (replaced_spare_keeps set (pools_of all ps))) (
    either (has 101 gs) _ _ (passed (only (codes "es") gs) _ (enabled_spares_keep set all ps)) (
    passed (has 105 gs) _ (passed (only (codes "is") gs) _ (listed_pools_keep set all ps))))))

plain_keeps : (verb : Verb) (gs : List Given) (set : Option (List ℕ)) (ps : List Part) → AreBounded gs → Holds (plain_of verb gs set ps)
plain_keeps Metadb gs set ps is = metadb_keeps gs set ps is
plain_keeps Metainit gs set ps is = metainit_keeps gs set ps
plain_keeps Metaclear gs set ps is = metaclear_keeps gs set ps
plain_keeps Metattach gs set ps is = metattach_keeps gs set ps
plain_keeps Metadetach gs set ps is = behind_it (submirror_of set ps) _ (λ p. tt)
plain_keeps Metaoffline gs set ps is = behind_it (submirror_of set ps) _ (λ p. tt)
plain_keeps Metaonline gs set ps is = behind_it (submirror_of set ps) _ (λ p. tt)
plain_keeps Metareplace gs set ps is = metareplace_keeps gs set ps
plain_keeps Metahs gs set ps is = metahs_keeps gs set false ps
plain_keeps Metastat gs set ps is = behind_it (all_of (front named_of ps) (behind named_of ps)) _ (λ ns. tt)

verb_keeps : (verb : Verb) (gs : List Given) (set : Option (List ℕ)) (all : Bool) (ps : List Part) → AreBounded gs → Holds (command_of verb gs set all ps)
verb_keeps verb gs set false ps is = plain_keeps verb gs set ps is
verb_keeps Metahs gs set true ps is = metahs_keeps gs set true ps
verb_keeps _ gs set true ps is = tt

sets_keep : (form : SetForm) (gs : List Given) (ws : List (List ℕ)) (c : Command) → AsksSets form gs ws c → Keeps c
sets_keep Show gs ws c asks = subst Keeps (sym asks.1) tt
sets_keep (Change form) gs ws c asks = subst Keeps (sym asks.4) tt

-- what a line asks behind its first word
asked_keeps : (head : Head) (ws : List (List ℕ)) (c : Command) → AsksBehind head ws c → Keeps c
asked_keeps (OfVerb verb) ws c asks =
    let parts = asks.asks in
    subst (λ (o : Option Command). Holds o) parts.form (verb_keeps verb asks.given parts.set parts.all parts.parts (bounded (joined asks.options.0.spelled) asks.given asks.options.0.given))
asked_keeps OfSets ws c asks = sets_keep asks.form asks.given asks.operands c asks.asks
asked_keeps OfRead ws c asks = subst Keeps (sym asks.is) asks.counted.some
asked_keeps OfWrite ws c asks = subst Keeps (sym asks.is) tt
asked_keeps OfFill ws c asks = subst Keeps (sym asks.is) asks.counted.some
asked_keeps OfIdle ws c asks = subst Keeps (sym asks.is) tt

pub command_keeps : (ws : List (List ℕ)) (c : Command) → IsCommand ws c → Keeps c
command_keeps [] c is = absurd is
command_keeps (w ∷ ws) c is = asked_keeps is.0 ws c is.2
