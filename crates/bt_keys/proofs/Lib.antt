pub mod FsKeys
