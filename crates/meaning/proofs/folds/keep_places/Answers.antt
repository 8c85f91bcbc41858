use Rattle.meaning.proofs.Places.{places_counted, past_places, alternate_there}
use Rattle.meaning.proofs.folds.keep_places.Goals as goal

pub returns : goal.returns
returns c = record { counted = places_counted; past = past_places; alternate = alternate_there }
