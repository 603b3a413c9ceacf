-- How the program tells the end of a run: by a number, and a failure also by its name and values.
use Rattle.std.specs.Prelude.{ℕ, List, ◌∷◌, ◌++◌, codes, decimal}
use Rattle.mdv_run_law.specs.declared.status.RunStatus.{RunStatus}
use Rattle.mdv_run_law.specs.declared.status.RunStatus.TheVariants.{Done, SomeRefused, Usage, NoQuorum, Panic, ReadFault, WriteFault, NoMemory, TwoDatabases, ScriptTooLong, NumbersSpent}

-- the number that the program ends with
abbrev pub status_number : RunStatus → ℕ
status_number Done = 0
status_number SomeRefused = 1
status_number Usage = 2
status_number (NoQuorum readable needed) = 3
status_number (Panic active listed) = 4
status_number ReadFault = 5
status_number WriteFault = 6
status_number NoMemory = 7
status_number (TwoDatabases a b) = 8
status_number (ScriptTooLong lines bytes) = 9
status_number NumbersSpent = 10

abbrev pub usage_line : List ℕ
usage_line = codes "usage: metad HOST < SCRIPT"

-- the name of a status and its values; a faulty use is followed by the line of usage
abbrev pub status_text : RunStatus → List ℕ
status_text Done = codes "Done"
status_text SomeRefused = codes "SomeRefused"
status_text Usage = codes "Usage" ++ 10 ∷ usage_line
status_text (NoQuorum readable needed) = codes "NoQuorum " ++ decimal readable ++ 32 ∷ decimal needed
status_text (Panic active listed) = codes "Panic " ++ decimal active ++ 32 ∷ decimal listed
status_text ReadFault = codes "ReadFault"
status_text WriteFault = codes "WriteFault"
status_text NoMemory = codes "NoMemory"
status_text (TwoDatabases a b) =
    codes "TwoDatabases " ++ decimal a.fresh ++ 32 ∷ decimal a.number ++ 32 ∷ decimal b.fresh ++ 32 ∷ decimal b.number
status_text (ScriptTooLong lines bytes) = codes "ScriptTooLong " ++ decimal lines ++ 32 ∷ decimal bytes
status_text NumbersSpent = codes "NumbersSpent"
