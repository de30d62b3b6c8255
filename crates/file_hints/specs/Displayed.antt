-- How hints are displayed.
use Rattle.std.specs.Prelude.{ℕ, List, ◌++◌, codes}
use Rattle.std.specs.Fmt.{decimal}
use Rattle.file_hints.specs.declared.hint.Hint.{Hint}
use Rattle.file_hints.specs.declared.hint.Hint.TheVariants.{UnknownName, Misspelled, PassedOver, BelowQueue, Unassigned, MisspelledMacro, MissingProgram, Elsewhere, WordsInProgram, FolderAsProgram, SpecialAsProgram, NotExecutable, CarriageReturn, MissingReader, MissingFolder, SharedOutput, CountedOutput, OwnFile, InputWritten, BareQuote, NoLog, NoEnvironment, OwnFolder, ContinuedComment, LaunchNumber, SkipValue, SignalValue, NoopScript}
use Rattle.file_hints.specs.declared.hint.Finding.{Finding}

-- what comes after the place
abbrev pub hint_text : Hint → List ℕ
hint_text (UnknownName name) = name ++ codes " is no command that dagrun reads, and no macro that is referred to: take the line away"
hint_text (Misspelled name meant) = name ++ (codes " is no command that dagrun reads, and no macro that is referred to: is " ++ (meant ++ codes " meant?"))
hint_text (PassedOver name instead) = name ++ (codes " is passed over: " ++ instead)
hint_text (BelowQueue name) = name ++ codes " stands below queue and has no effect: write it above"
hint_text (Unassigned name) = codes "$(" ++ (name ++ codes ") is assigned nowhere, so it is empty: assign it here or by VARS, or give it a default")
hint_text (MisspelledMacro name meant) = codes "$(" ++ (name ++ (codes ") is assigned nowhere, so it is empty: is $(" ++ (meant ++ codes ") meant?")))
hint_text (MissingProgram path) = path ++ codes " is not there: put it there, or mend its path"
hint_text (Elsewhere path found) = path ++ (codes " is not there, and the folders of PATH are not searched: is " ++ (found ++ codes " meant?"))
hint_text (WordsInProgram path program words) = path ++ (codes " is not there: write executable = " ++ (program ++ (codes " and arguments = " ++ words)))
hint_text (FolderAsProgram path) = path ++ codes " is a folder: name a program"
hint_text (SpecialAsProgram path) = path ++ codes " is a pipe, a device or a socket: name a program"
hint_text (NotExecutable path word) = path ++ (codes " may not be executed: chmod +x " ++ word)
hint_text (CarriageReturn path word) = codes "the first line of " ++ (path ++ (codes " ends with a carriage return: sed -i 's/\\r$//' " ++ word))
hint_text (MissingReader path reader) = codes "the first line of " ++ (path ++ (codes " names " ++ (reader ++ codes ", where no program is: name the one that reads it")))
hint_text (MissingFolder path word) = codes "the folder " ++ (path ++ (codes " is not there: mkdir -p " ++ word))
hint_text (SharedOutput path first second) = first ++ (codes " and " ++ (second ++ (codes " may run at once, and both write " ++ (path ++ codes ": put $(JOB) into its name"))))
hint_text (CountedOutput path first second) = first ++ (codes " and " ++ (second ++ (codes " may both write " ++ (path ++ codes ", since $(Cluster) begins at 1 again in each round: put $(JOB) into its name"))))
hint_text (OwnFile path) = path ++ codes " is a file of the DAG itself, and is emptied as the job starts: name another file"
hint_text (InputWritten path) = path ++ codes " is the input of the job, too, and is emptied as it starts: name another file"
hint_text BareQuote = codes "the double quotes in arguments are letters here, and HTCondor refuses them: write \"-c 'echo hi'\" for -c \"echo hi\", and \\\" for a letter"
hint_text NoLog = codes "no log is named, and HTCondor keeps none for this job: write log = FILE"
hint_text NoEnvironment = codes "the job has the environment of dagrun here, and none under HTCondor: write getenv = true"
hint_text OwnFolder = codes "HTCondor runs the job in a folder of its own, where relative paths lead elsewhere: write universe = local"
hint_text ContinuedComment = codes "a comment ends with a backslash, and HTCondor may join the line below: take the backslash away"
hint_text (LaunchNumber name) = codes "$(" ++ (name ++ codes ") counts the launches here, and the clusters of the queue under HTCondor: write $(JOB) and $(RETRY)")
hint_text SkipValue = codes "PRE_SKIP skips by exit codes alone, and DAGMan refuses another value: write one from 1 to 255"
hint_text (SignalValue command) = command ++ codes " has a value below zero, which DAGMan gives otherwise, as -1002 to a job that is removed: write an exit code"
hint_text (NoopScript node) = node ++ codes " is a NOOP with a script, which DAGMan runs where the submit file is there: put that file there"

-- the word before it
abbrev pub topic_of : Hint → List ℕ
topic_of (UnknownName name) = codes "hint"
topic_of (Misspelled name meant) = codes "hint"
topic_of (PassedOver name instead) = codes "hint"
topic_of (BelowQueue name) = codes "hint"
topic_of (Unassigned name) = codes "hint"
topic_of (MisspelledMacro name meant) = codes "hint"
topic_of (MissingProgram path) = codes "hint"
topic_of (Elsewhere path found) = codes "hint"
topic_of (WordsInProgram path program words) = codes "hint"
topic_of (FolderAsProgram path) = codes "hint"
topic_of (SpecialAsProgram path) = codes "hint"
topic_of (NotExecutable path word) = codes "hint"
topic_of (CarriageReturn path word) = codes "hint"
topic_of (MissingReader path reader) = codes "hint"
topic_of (MissingFolder path word) = codes "hint"
topic_of (SharedOutput path first second) = codes "hint"
topic_of (CountedOutput path first second) = codes "hint"
topic_of (OwnFile path) = codes "hint"
topic_of (InputWritten path) = codes "hint"
topic_of BareQuote = codes "hint"
topic_of NoLog = codes "condor"
topic_of NoEnvironment = codes "condor"
topic_of OwnFolder = codes "condor"
topic_of ContinuedComment = codes "condor"
topic_of (LaunchNumber name) = codes "condor"
topic_of SkipValue = codes "condor"
topic_of (SignalValue command) = codes "condor"
topic_of (NoopScript node) = codes "condor"

-- the line that the user reads
abbrev pub finding_line : List ℕ → Finding → List ℕ
finding_line path finding = topic_of finding.hint ++ (codes ": " ++ (path ++ (codes ":" ++ (decimal finding.line ++ (codes " " ++ (hint_text finding.hint ++ codes "\n"))))))
