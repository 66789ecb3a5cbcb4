-- What is known of a store.
use Rattle.coordinator.specs.coord_core.Saving.{StoreView}
use Rattle.coordinator.specs.declared.coord_core.stores.Store.{Store}

abbrev pub store_view : Store → StoreView
store_view store = record { vertices = store.vertices; edges = store.edges; newest = store.newest; store_end = store.length }
