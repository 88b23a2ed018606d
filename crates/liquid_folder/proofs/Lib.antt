mod SamePaths
