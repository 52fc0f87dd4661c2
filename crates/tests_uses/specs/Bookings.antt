-- What each rule about a booking says.
use Rattle.std.specs.Prelude.{Bool, nat_le}
use Rattle.std.specs.Option.{is_some}
use Rattle.std.specs.Vec.{vec_len}
use Rattle.tests_uses.specs.declared.bookings.Booking.{Booking}
use Rattle.tests_uses.specs.declared.bookings.BookingRule.{BookingRule}
use Rattle.tests_uses.specs.declared.bookings.BookingRule.TheVariants.{Guests, Seated, UpTo}

abbrev pub keeps : BookingRule → Booking → Bool
keeps (Guests least) booking = nat_le least (vec_len booking.guests)
keeps Seated booking = is_some booking.seat
keeps (UpTo most) booking = nat_le booking.price most
