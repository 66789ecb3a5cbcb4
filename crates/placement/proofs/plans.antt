mod PlacingLemmas
