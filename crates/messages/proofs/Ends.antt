-- What comes of all fields of a message by what is known of them at its end, for any kind of message. Assumes nothing.
use Rattle.std.proofs.Common.{◌≡◌, Bool, List, Ok, Err, refl, fold, ℕ}
use Rattle.wire.specs.Readings.{Reading}
use Rattle.wire.specs.Fields.{Field}
use Rattle.wire.specs.Messages.{fields_that, outcome}
use Rattle.packets.specs.Answers.{Answer, from_fields}
use Rattle.messages.specs.Gathering.{gathered}

ends_by : {S R : Type 0} (step : S → Field → S) (s : S) (close : S → Answer R) (all : List Field → Answer R) (r : Reading (List Field))
    → ((fs : List Field) → all fs ≡ close (fold step s fs)) → from_fields r all ≡ from_fields (outcome step Ok Err s r) close
ends_by step s close all (Ok fs) h = h fs
ends_by step s close all (Err e) h = refl

-- what all fields come to is what they come to one by one
pub ends : {S R : Type 0} (fits : Field → Bool) (step : S → Field → S) (s : S) (close : S → Answer R) (all : List Field → Answer R) (m : List ℕ)
    → ((fs : List Field) → all fs ≡ close (fold step s fs)) → from_fields (fields_that fits m) all ≡ from_fields (gathered fits step s m) close
ends fits step s close all m h = ends_by step s close all (fields_that fits m) h
