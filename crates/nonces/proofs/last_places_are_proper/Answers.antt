use Rattle.nonces.specs.Sources.{sheet_nonces}
use Rattle.nonces.proofs.LastPlaces.{last_places_proper, last_places_same}
use Rattle.nonces.proofs.last_places_are_proper.Goals as goal

pub returns : goal.returns
returns c = record { proper = last_places_proper c.args.entries.now; same = last_places_same (sheet_nonces c.args.entries.now) }
