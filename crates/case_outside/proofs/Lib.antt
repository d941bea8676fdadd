mod DiskPushes
mod DiskPicks
mod FolderMarks
mod Kept
mod Reading
