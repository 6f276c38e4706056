mod FolderLemmas
mod ReadLemmas
