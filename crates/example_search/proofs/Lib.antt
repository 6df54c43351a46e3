mod ListedPlaces
