-- Sayings and readings as the code has them.
use Rattle.submit_file.specs.Forms as forms
use Rattle.submit_file.specs.Submit.{Reading}
use Rattle.submit_file.specs.declared.line.Saying.{Saying}
use Rattle.submit_file.specs.declared.line.Saying.TheVariants.{Silent, Assigns, Queues, Wrong}
use Rattle.submit_file.specs.declared.submit.Reader.{Reader}

abbrev pub saying_of : Saying → forms.Saying
saying_of Silent = forms.Silent
saying_of (Assigns name value) = forms.Assigns name.now value.now
saying_of Queues = forms.Queues
saying_of (Wrong fault) = forms.Wrong fault

abbrev pub reading_of : Reader → Reading
reading_of r = record { assigned = r.assigned.items; queued = r.queued }
