-- The commands on replicas, volumes and pools, and the options that each takes.
use Rattle.std.specs.Prelude.{◌≡◌, ℕ, List, [], codes}
use Rattle.mdv_grammar.specs.declared.verb.Head.{Head}
use Rattle.mdv_grammar.specs.declared.verb.Head.TheVariants.{OfVerb, OfSets, OfRead, OfWrite, OfFill, OfIdle}
use Rattle.mdv_grammar.specs.declared.verb.Verb.{Verb}
use Rattle.mdv_grammar.specs.declared.verb.Verb.TheVariants.{Metadb, Metainit, Metaclear, Metattach, Metadetach, Metaoffline, Metaonline, Metareplace, Metahs, Metastat}

abbrev pub verb_text : Verb → List ℕ
verb_text Metadb = codes "metadb"
verb_text Metainit = codes "metainit"
verb_text Metaclear = codes "metaclear"
verb_text Metattach = codes "metattach"
verb_text Metadetach = codes "metadetach"
verb_text Metaoffline = codes "metaoffline"
verb_text Metaonline = codes "metaonline"
verb_text Metareplace = codes "metareplace"
verb_text Metahs = codes "metahs"
verb_text Metastat = codes "metastat"

-- the first word of a line that asks something
abbrev pub head_text : Head → List ℕ
head_text (OfVerb verb) = verb_text verb
head_text OfSets = codes "metaset"
head_text OfRead = codes "read"
head_text OfWrite = codes "write"
head_text OfFill = codes "fill"
head_text OfIdle = codes "idle"

-- none of those that aren't on replicas, volumes or pools
pub record IsNoOther (w : List ℕ) : Type 0 where
  pub sets : w ≡ codes "metaset" → ⊥
  pub read : w ≡ codes "read" → ⊥
  pub write : w ≡ codes "write" → ⊥
  pub fill : w ≡ codes "fill" → ⊥
  pub idle : w ≡ codes "idle" → ⊥

-- the options without a value
abbrev pub flags_of : Verb → List ℕ
flags_of Metadb = codes "adfi"
flags_of Metainit = codes "af"
flags_of Metaclear = codes "afr"
flags_of Metattach = []
flags_of Metadetach = codes "f"
flags_of Metaoffline = []
flags_of Metaonline = []
flags_of Metareplace = codes "e"
flags_of Metahs = codes "adeir"
flags_of Metastat = codes "p"

-- the options with one: `-s SET`, of replicas also `-c N` and `-l BLOCKS`, of `metattach` also `-i SIZE`
abbrev pub values_of : Verb → List ℕ
values_of Metadb = codes "cls"
values_of Metattach = codes "is"
values_of _ = codes "s"
