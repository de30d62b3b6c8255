-- The notices of lines, as the code has them.
use Rattle.std.specs.Prelude.{string_bytes}
use Rattle.splices.specs.declared.notices.Notice.{Notice as KeptNotice}
use Rattle.splices.specs.declared.notices.Place.{Place as KeptPlace}
use Rattle.splices_flat.specs.Notices.{Notice, Place, place}

abbrev pub notice_place : KeptPlace → Place
notice_place p = place (string_bytes p.path) p.line

abbrev pub notice_of : KeptNotice → Notice
notice_of n = record { warned = notice_place n.warned; by = notice_place n.by; is_ignored = n.is_ignored }
