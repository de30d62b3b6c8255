use Rattle.std.proofs.Common.{◌∙◌, sym, ap, List, ℕ, ◌++◌, ◌/◌, ◌%◌, codes, decimal}
use Rattle.rescue_file.proofs.Digits.{digits_written}
use Rattle.rescue_file.proofs.LineReadings.{good}
use Rattle.rescue_file.proofs.names.rescue_name.Goals as goal

pub returns-clause-name : goal.returns-clause-name
returns-clause-name c = λ is.
    let n = c.args.number in
    let digits = codes ".rescue" ++ (decimal (n / 100) ++ (decimal (n / 10 % 10) ++ decimal (n % 10))) in
    ap (λ (t : List ℕ). good t)
    (sym (c.in_ok-new.ensures ∙ c.as_str.ensures.value ∙ c.in_ok-write.ensures.bytes ∙ ap (λ (t : List ℕ). t ++ digits) c.in_ok-name.ensures.ok ∙ digits_written c.args.top.now n is.1))
