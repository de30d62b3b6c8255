use Rattle.vars_macros.proofs.ScriptUnread.{known_word, known_in_pre_script, word_in_pre_script}
use Rattle.vars_macros.proofs.laws.script_not_read.Goals as goal

pub returns-clause-whole_run : goal.returns-clause-whole_run
returns-clause-whole_run c = known_word

pub returns-clause-pre_script : goal.returns-clause-pre_script
returns-clause-pre_script c = known_in_pre_script

pub returns-clause-pre_script_in_one_dag : goal.returns-clause-pre_script_in_one_dag
returns-clause-pre_script_in_one_dag c = word_in_pre_script
