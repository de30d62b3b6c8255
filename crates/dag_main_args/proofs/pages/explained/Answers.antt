use Rattle.std.proofs.Common.{◌≡◌, ap, sym, ◌∙◌, None, rules, inr}
use Rattle.fault_guide.specs.Codes.{lent_codes}
use Rattle.dag_main_args.proofs.Explained.{all-listed, none-told, one-told}
use Rattle.dag_main_args.proofs.pages.explained.Goals as goal

pub returns-in_default : goal.returns-in_default
returns-in_default c =
    let none : c.args.code ≡ None = search rules in
    record { page = all-listed c.deref.result.now c.args.code _ (ap lent_codes c.deref.ensures.value ∙ c.in_ok-faults.ensures) none c.in_ok-list_text.ensures; refused = tt }

pub returns-in-Some-fault_of : goal.returns-in-Some-fault_of
returns-in-Some-fault_of c =
    record {
      page = one-told c.deref-2.result.now c.args.code c.in-Some.code c.in-Some-fault_of.fault _
          (ap lent_codes c.deref-2.ensures.value ∙ c.in_ok-faults.ensures) c.in-Some.is
          (sym c.fault_of.ensures ∙ c.in-Some-fault_of.is) c.in_ok-page_text-in-Some-fault_of.ensures;
      refused = tt;
    }

pub returns-clause-refused : goal.returns-clause-refused
returns-clause-refused c =
    inr (none-told c.deref-2.result.now c.args.code c.in-Some.code (ap lent_codes c.deref-2.ensures.value ∙ c.in_ok-faults.ensures) c.in-Some.is
    (sym c.fault_of.ensures ∙ c.in-None.is))
