mod Lacking
mod Coming
mod Counting
