mod AmongIds
mod LineLaws
mod NotedLaws
